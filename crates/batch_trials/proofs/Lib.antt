mod StagedSome
