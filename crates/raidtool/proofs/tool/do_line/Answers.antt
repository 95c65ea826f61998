use Rattle.std.proofs.Common.{◌⊎◌, refl}
use Rattle.std.specs.Prelude.{IsTrue}
use Rattle.std.proofs.lemmas.Bool.{false≢true}
use Rattle.std.proofs.lemmas.Result.{IfErr-weaker, err_from_is_err_and}
use Rattle.set_commands.specs.Run.{streams}
use Rattle.raidtool.proofs.Causes.{by_refusal, caused_as, no_sizes, served_cause, sizes_make}
use Rattle.raidtool.proofs.InspectionsTold.{inspections_cut}
use Rattle.raidtool.proofs.DoneLines.{made_done, sized_cut, sized_done, no_make, passes_some, replaced_done, served_blamed, served_done}
use Rattle.raidtool.proofs.DoneLines.{first_in, first_of_files, requests_served, sized_blamed}
use Rattle.raidtool.proofs.tool.do_line.Goals as goal

pub returns-in_ok-geometry-in-Make-clause-does : goal.returns-in_ok-geometry-in-Make-clause-does
returns-in_ok-geometry-in-Make-clause-does g c =
    let geometry = c.in_ok-geometry-in-Make in
    rw c.in-Make.is (made_done g.D.File.Growing g.D.File.BankFile.left g.D.InspectedFile.Growing g.D.InspectedFile.BankFile.left
    (g.D.SlotFiles.opens c.args.disk.now)
    (g.D.SlotFiles.creates c.args.disk.now) (g.D.InspectFiles.inspects c.args.disk.now)
    (λ folder. g.D.FolderSync.is_safe c.args.disk.now folder ⊎ g.D.FolderSync.is_never c.args.disk.now folder)
    c.args.drawn c.in-Make.folder c.in-Make.id c.in-Make.members c.in-Make.chunk c.in-Make.stripes geometry.geometry c.make_set.result
    (streams (g.R.Read.remaining c.args.reader.now) (g.W.Write.contents c.args.out.now))
    (streams (g.R.Read.remaining c.args.reader.now) (g.W.Write.contents c.make_set.new.out)) c.args.health.now
    (record {
      format_is = geometry.ensures.format;
      members_is = geometry.ensures.members;
      chunk_is = geometry.ensures.chunk;
      stripes_is = geometry.ensures.stripes;
      within = geometry.ensures.within.0 refl;
    }) c.make_set.ensures.made c.make_set.ensures.synced c.make_set.ensures.written)

pub returns-in-MakeSized-clause-does : goal.returns-in-MakeSized-clause-does
returns-in-MakeSized-clause-does g c =
    rw c.in-MakeSized.is (sized_done g.D.File.Growing g.D.File.BankFile.left g.D.InspectedFile.Growing g.D.InspectedFile.BankFile.left
    (g.D.SlotFiles.opens c.args.disk.now)
    (g.D.SlotFiles.creates c.args.disk.now) (g.D.InspectFiles.inspects c.args.disk.now)
    (λ folder. g.D.FolderSync.is_safe c.args.disk.now folder ⊎ g.D.FolderSync.is_never c.args.disk.now folder)
    c.args.drawn c.in-MakeSized.folder c.in-MakeSized.id c.in-MakeSized.members c.in-MakeSized.chunk c.in-MakeSized.size c.in-MakeSized.over
    c.in-MakeSized.reserve c.make_sized.result
    (streams (g.R.Read.remaining c.args.reader.now) (g.W.Write.contents c.args.out.now))
    (streams (g.R.Read.remaining c.args.reader.now) (g.W.Write.contents c.make_sized.new.out)) c.args.health.now
    c.make_sized.ensures.made c.make_sized.ensures.synced)

pub returns-in-Replace-clause-does : goal.returns-in-Replace-clause-does
returns-in-Replace-clause-does g c =
    rw c.in-Replace.is (replaced_done g.D.File.Growing g.D.File.BankFile.left g.D.InspectedFile.Growing g.D.InspectedFile.BankFile.left
    (g.D.SlotFiles.opens c.args.disk.now)
    (g.D.SlotFiles.creates c.args.disk.now) (g.D.InspectFiles.inspects c.args.disk.now)
    (λ folder. g.D.FolderSync.is_safe c.args.disk.now folder ⊎ g.D.FolderSync.is_never c.args.disk.now folder)
    c.args.drawn c.in-Replace.folder c.in-Replace.id c.in-Replace.slot c.replace_in_folder.result
    (streams (g.R.Read.remaining c.args.reader.now) (g.W.Write.contents c.args.out.now))
    (streams (g.R.Read.remaining c.args.reader.now) (g.W.Write.contents c.replace_in_folder.new.out)) c.args.health.now
    c.replace_in_folder.ensures.replaces.replaced c.replace_in_folder.ensures.replaces.synced c.replace_in_folder.ensures.replaces.written)

pub returns-in_default : goal.returns-in_default
returns-in_default g c =
    let served = c.serve_folder.ensures in
    record {
      does = served_done g.D.File.Growing g.D.File.BankFile.left g.D.InspectedFile.Growing g.D.InspectedFile.BankFile.left
          (g.D.SlotFiles.opens c.args.disk.now)
          (g.D.SlotFiles.creates c.args.disk.now) (g.D.InspectFiles.inspects c.args.disk.now)
          (λ folder. g.D.FolderSync.is_safe c.args.disk.now folder ⊎ g.D.FolderSync.is_never c.args.disk.now folder)
          c.args.drawn c.args.line c.serve_folder.result _ _ _ _ c.in_default.not-Make c.in_default.not-MakeSized c.in_default.not-Replace
          c.in_default.not-Examine c.in_default.not-Serve served.served;
      read = served.read;
      stopped = served.stopped;
      cause = IfErr-weaker c.serve_folder.result _ _ (λ fault cause. caused_as _ _ fault (λ refusal. served_cause g.D.File.Growing g.D.File.BankFile.left
          g.D.InspectedFile.Growing g.D.InspectedFile.BankFile.left (g.D.SlotFiles.opens c.args.disk.now) (g.D.InspectFiles.inspects c.args.disk.now)
          c.args.line refusal c.in_default.not-Make c.in_default.not-MakeSized c.in_default.not-Replace
          c.in_default.not-Examine c.in_default.not-Serve) cause) served.cause;
      named = served_blamed g.D.File.Growing (g.D.SlotFiles.opens c.args.disk.now) (g.D.SlotFiles.creates c.args.disk.now)
          (g.D.InspectFiles.inspects c.args.disk.now) c.args.line c.serve_folder.result c.in_default.not-MakeSized c.in_default.not-Examine served.named;
      alone = IfErr-weaker c.serve_folder.result _ _ (λ fault alone first. alone (first_in c.args.line fault first)) served.alone;
      unwritten = served.unwritten;
      cut = λ beside. IfErr-weaker c.serve_folder.result _ _ (λ fault part same. part same c.args.drawn) (served.cut beside);
      beside = served.beside;
      misshapen = λ bad. absurd (no_make c.args.line c.in_default.not-Make bad);
      passed = served.passed;
      hushed = λ none. absurd (passes_some c.args.line c.in_default.not-Make c.in_default.not-MakeSized c.in_default.not-Examine none);
    }

pub returns-in-Replace-clause-cut : goal.returns-in-Replace-clause-cut
returns-in-Replace-clause-cut g c = λ _. IfErr-weaker c.replace_in_folder.result _ _ (λ fault part cut. rw c.in-Replace.is (part cut).1)
    c.replace_in_folder.ensures.replaces.cut

pub returns-in-Examine-clause-cut : goal.returns-in-Examine-clause-cut
returns-in-Examine-clause-cut g c = λ _. IfErr-weaker c.examine_folder.result _ _ (λ fault part cut.
    rw c.in-Examine.is (inspections_cut (IsTrue g.D.InspectedFile.Growing.tells) c.in-Examine.id c.in-Examine.json (part cut).0 _ _ (part cut).2))
    c.examine_folder.ensures.cut

pub returns-in-MakeSized-clause-named : goal.returns-in-MakeSized-clause-named
returns-in-MakeSized-clause-named g c =
    rw c.in-MakeSized.is (sized_blamed g.D.File.Growing (g.D.SlotFiles.opens c.args.disk.now) (g.D.SlotFiles.creates c.args.disk.now)
    (g.D.InspectFiles.inspects c.args.disk.now) c.in-MakeSized.folder c.in-MakeSized.id c.in-MakeSized.members c.in-MakeSized.chunk c.in-MakeSized.size
    c.in-MakeSized.over c.in-MakeSized.reserve c.make_sized.result c.make_sized.ensures.named c.make_sized.ensures.found)

pub returns-in-Examine-clause-does : goal.returns-in-Examine-clause-does
returns-in-Examine-clause-does g c = rw c.in-Examine.is c.examine_folder.ensures.examined

-- ---- why it was refused

pub returns-in_err-geometry-in-Make-clause-cause : goal.returns-in_err-geometry-in-Make-clause-cause
returns-in_err-geometry-in-Make-clause-cause g c =
    let from = err_from_is_err_and c.from_residual.result c.from_residual.ensures.1 in
    rw (c.in-Make.is, from.1, from.2) (by_refusal _ _ (λ _. no_sizes g.D.File.Growing g.D.File.BankFile.left c.in-Make.id c.in-Make.members c.in-Make.chunk
    c.in-Make.stripes _
    c.in_err-geometry-in-Make.ensures.refusal (λ its. false≢true (c.in_err-geometry-in-Make.ensures.within.1 its))))

pub returns-in_ok-geometry-in-Make-clause-cause : goal.returns-in_ok-geometry-in-Make-clause-cause
returns-in_ok-geometry-in-Make-clause-cause g c =
    let geometry = c.in_ok-geometry-in-Make in
    rw c.in-Make.is (IfErr-weaker c.make_set.result _ _ (λ fault cause. caused_as _ _ fault
    (sizes_make g.D.File.Growing g.D.File.BankFile.left c.in-Make.id c.in-Make.members c.in-Make.chunk c.in-Make.stripes geometry.geometry (record {
      format_is = geometry.ensures.format;
      members_is = geometry.ensures.members;
      chunk_is = geometry.ensures.chunk;
      stripes_is = geometry.ensures.stripes;
      within = geometry.ensures.within.0 refl;
    })) cause) c.make_set.ensures.cause)

pub returns-in-Replace-clause-cause : goal.returns-in-Replace-clause-cause
returns-in-Replace-clause-cause g c = rw c.in-Replace.is c.replace_in_folder.ensures.replaces.cause

pub returns-in-Examine-clause-cause : goal.returns-in-Examine-clause-cause
returns-in-Examine-clause-cause g c = rw c.in-Examine.is c.examine_folder.ensures.cause

pub returns-in-MakeSized-clause-cut : goal.returns-in-MakeSized-clause-cut
returns-in-MakeSized-clause-cut g c = λ _. IfErr-weaker c.make_sized.result _ _ (λ fault part cut.
    rw c.in-MakeSized.is (sized_cut g.D.File.Growing g.D.File.BankFile.left _ _ _ _ _ _ _ _ _ _ _ (part cut))) c.make_sized.ensures.part

pub returns-in-MakeSized-clause-cause : goal.returns-in-MakeSized-clause-cause
returns-in-MakeSized-clause-cause g c = rw c.in-MakeSized.is c.make_sized.ensures.cause

-- ---- requests

pub returns-in-Serve-clause-does : goal.returns-in-Serve-clause-does
returns-in-Serve-clause-does g c = rw c.in-Serve.is (requests_served g.D.File.Growing g.D.File.BankFile.left (g.D.SlotFiles.opens c.args.disk.now) _ _
    c.serve_in_folder.result _ _ c.args.health.now c.serve_in_folder.ensures.served)

pub returns-in-Serve-clause-alone : goal.returns-in-Serve-clause-alone
returns-in-Serve-clause-alone g c = rw c.in-Serve.is (IfErr-weaker c.serve_in_folder.result _ _ (λ fault alone first.
    alone (first_of_files c.in-Serve.folder c.in-Serve.id fault first)) c.serve_in_folder.ensures.alone)

pub returns-in-Serve-clause-cause : goal.returns-in-Serve-clause-cause
returns-in-Serve-clause-cause g c = rw c.in-Serve.is c.serve_in_folder.ensures.cause
