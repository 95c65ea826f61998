-- The words with which lines begin.
use Rattle.std.specs.Prelude.{◌≢◌, ℕ, List, codes}
use Rattle.requests.specs.declared.words.Word.{Word}
use Rattle.requests.specs.declared.words.Word.TheVariants.{OnBlocks, OnVolumes, OnSet}
use Rattle.requests.specs.declared.words.BlocksWord.{BlocksWord}
use Rattle.requests.specs.declared.words.BlocksWord.TheVariants.{Read, Write, Zero, Together}
use Rattle.requests.specs.declared.words.VolumesWord.{VolumesWord}
use Rattle.requests.specs.declared.words.VolumesWord.TheVariants.{List as ListWord, Create, Extend, Remove, Rename}
use Rattle.requests.specs.declared.words.SetWord.{SetWord}
use Rattle.requests.specs.declared.words.SetWord.TheVariants.{Status, Fail, Replace, Rebuild, Scrub}

abbrev pub blocks_text : BlocksWord → List ℕ
blocks_text Read = codes "read"
blocks_text Write = codes "write"
blocks_text Zero = codes "zero"
blocks_text Together = codes "together"

abbrev pub volumes_text : VolumesWord → List ℕ
volumes_text ListWord = codes "list"
volumes_text Create = codes "create"
volumes_text Extend = codes "extend"
volumes_text Remove = codes "remove"
volumes_text Rename = codes "rename"

abbrev pub set_text : SetWord → List ℕ
set_text Status = codes "status"
set_text Fail = codes "fail"
set_text Replace = codes "replace"
set_text Rebuild = codes "rebuild"
set_text Scrub = codes "scrub"

-- the bytes of a word
abbrev pub text_of : Word → List ℕ
text_of (OnBlocks word) = blocks_text word
text_of (OnVolumes word) = volumes_text word
text_of (OnSet word) = set_text word

abbrev pub SpellsNoBlocksWord : List ℕ → Type 0
SpellsNoBlocksWord field = (word : BlocksWord) → field ≢ blocks_text word

abbrev pub SpellsNoVolumesWord : List ℕ → Type 0
SpellsNoVolumesWord field = (word : VolumesWord) → field ≢ volumes_text word

abbrev pub SpellsNoSetWord : List ℕ → Type 0
SpellsNoSetWord field = (word : SetWord) → field ≢ set_text word

-- the field is none of the words
abbrev pub SpellsNoWord : List ℕ → Type 0
SpellsNoWord field = (word : Word) → field ≢ text_of word
