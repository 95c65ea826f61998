-- An upgrade puts the whole table by one call, or has nothing to do.
use Rattle.std.proofs.Common.{◌∙◌, refl, sym}
use Rattle.volume_table.specs.Stands.{store_of}
use Rattle.volume_table.specs.VolumeStep.{OnVolumes, Upgrade}
use Rattle.volume_table.proofs.UpgradedVolumes.{kept_upgraded, upgrade_applies, upgrade_kept, upgraded_already}
use Rattle.volume_table.proofs.EndedStore.{stays_ended}
use Rattle.volume_table.specs.OpenStore.{store_view}
use Rattle.array_io.specs.Believed.OpenArray.{array_view}
use Rattle.volume_table.proofs.store.Store.upgrade.Goals as goal

pub returns-clause-honest : goal.returns-clause-honest
returns-clause-honest g c = rw c.end.ensures.array c.put_whole_table-answer.ensures.honest

pub returns-clause-upgrades : goal.returns-clause-upgrades
returns-clause-upgrades g c =
    let before = c.args.self.now in
    let after = c.put_whole_table-answer.new.array in
    rw (c.end.ensures.array, c.end.ensures.table, c.end.ensures.same) (upgrade_applies (g.B.Bank.honest before.array.bank)
    (store_view before)
    (store_of (array_view after) c.upgrade.new.self c.end.new.self.ended)
    c.put_whole_table-answer.result c.in_default.is
    record { version = c.upgrade.ensures.version; dirty = c.upgrade.ensures.dirty; records = c.upgrade.ensures.records; extents = c.upgrade.ensures.extents }
    (λ fair. g.met.B.Bank.true_to _ (c.put_whole_table-answer.ensures.honest.0 fair)) (c.put_whole_table-answer.ensures.changes before.table)
    (λ answered. c.end.ensures.done answered ∙ c.in_default.is) c.end.ensures.ended)

pub returns-in-Some-clause-honest : goal.returns-in-Some-clause-honest
returns-in-Some-clause-honest g c = (λ fair. fair, λ fair. fair)

pub returns-in-Some-clause-upgrades : goal.returns-in-Some-clause-upgrades
returns-in-Some-clause-upgrades g c =
    let its = c.args.self.now in
    stays_ended (g.B.Bank.honest its.array.bank) (OnVolumes Upgrade)
    (store_view its) c.in-Some.refusal c.in-Some.is

pub returns-then-upgraded_version-self-clause-upgrades : goal.returns-then-upgraded_version-self-clause-upgrades
returns-then-upgraded_version-self-clause-upgrades g c =
    let its = c.args.self.now in
    upgraded_already (g.B.Bank.honest its.array.bank) (store_view its) c.in_default.is (sym c.upgraded_version.ensures ∙ c.if-upgraded_version-self.true)
    (λ fair. g.met.B.Bank.true_to _ fair)

pub invariant_of-self : goal.invariant_of-self
invariant_of-self g c =
    let its = c.args.self.now in
    record {
      kept = kept_upgraded its.array.table.geometry c.put_whole_table-answer.new.array.table.geometry its.table c.upgrade.new.self its.map
          (c.put_whole_table-answer.ensures.changes its.table).goes_on.not_older.same_geometry
          record {
            version = c.upgrade.ensures.version;
            dirty = c.upgrade.ensures.dirty;
            records = c.upgrade.ensures.records;
            extents =
                c.upgrade.ensures.extents;
          } its.kept;
    }

pub returns-then-upgraded_version-self-clause-kept : goal.returns-then-upgraded_version-self-clause-kept
returns-then-upgraded_version-self-clause-kept g c =
    record {
      version = sym (sym c.upgraded_version.ensures ∙ c.if-upgraded_version-self.true);
      records = refl;
      extents = refl;
      dirty = refl;
      one_entry =
          λ apart. absurd (apart (sym c.upgraded_version.ensures ∙ c.if-upgraded_version-self.true));
      nothing = λ same. refl;
    }

pub returns-clause-kept : goal.returns-clause-kept
returns-clause-kept g c =
    let before = c.args.self.now in
    let after = c.put_whole_table-answer.new.array in
    rw (c.end.ensures.array, c.end.ensures.table, c.end.ensures.same) (upgrade_kept
    (store_view before)
    (store_of (array_view after) c.upgrade.new.self c.end.new.self.ended)
    c.put_whole_table-answer.result (λ same. c.if-upgraded_version-self.false (c.upgraded_version.ensures ∙ same))
    record { version = c.upgrade.ensures.version; dirty = c.upgrade.ensures.dirty; records = c.upgrade.ensures.records; extents = c.upgrade.ensures.extents }
    c.put_whole_table-answer.ensures.entry)
