use contract.BorrowLft.{⊑_static, ⊑_trans}
use Rattle.device_files.specs.BankFiles.{BeginsWithFiles}
use Rattle.device_files.proofs.Tables.{no_table_in, table_in}
use Rattle.device_files.proofs.passing.table_over.Goals as goal

pub chosen_table-requires-lives-B-Bank : goal.chosen_table-requires-lives-B-Bank
chosen_table-requires-lives-B-Bank g c κs within = ⊑_trans _ _ _ (⊑_static _) c.type_bounds.static-F

pub returns-clause-found : goal.returns-clause-found
returns-clause-found g c = table_in _ (BeginsWithFiles g.F.Growing.tells g.F.Growing.told g.F.BankFile.left c.args.files.now.files.items) c.args.id _ _
    c.in_ok-bank.ensures.begins c.chosen_table.result c.chosen_table.ensures.found

pub returns-clause-cause : goal.returns-clause-cause
returns-clause-cause g c = no_table_in _ (BeginsWithFiles g.F.Growing.tells g.F.Growing.told g.F.BankFile.left c.args.files.now.files.items) c.args.id _ _
    c.in_ok-bank.ensures.begins c.chosen_table.result c.chosen_table.ensures.found
