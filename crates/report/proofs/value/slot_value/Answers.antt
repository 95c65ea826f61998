-- The object is its members, put one after another.
use Rattle.std.proofs.Common.{◌≡◌, [], codes, ap, ◌∙◌}
use Rattle.superblock.specs.Tables.{incarnation_at, state_at}
use Rattle.serde_json.specs.Data.{no_members, object, string}
use Rattle.serde_json.specs.View.{view, members_view}
use Rattle.serde_json.proofs.Views.{view-Object}
use Rattle.report.specs.Report.{whole, role_word, state_word}
use Rattle.report.proofs.Members.{put_on}
use Rattle.report.proofs.value.slot_value.Goals as goal

pub returns-in-Ok-json-8 : goal.returns-in-Ok-json-8
returns-in-Ok-json-8 c =
    let status = c.args.status.now in
    let slot = c.args.slot in
    let none : c.json-new.result.entries ≡ [] = c.json-new.ensures.empty in
    let incarnation : view c.in-Ok-json.field-0 ≡ whole (incarnation_at status.incarnations slot) = c.in-Ok-json.ensures in
    let role : view c.in-Ok-json-3.field-0 ≡ string (role_word status.members slot) = c.in-Ok-json-3.ensures ∙ ap string c.role_word-role.ensures in
    let state : view c.in-Ok-json-7.field-0 ≡ string (state_word (state_at status.states slot)) = c.in-Ok-json-7.ensures
    ∙ ap string c.state_word-state.ensures in
    view-Object c.json-put-4.new.map ∙ ap object
    (put_on (codes "state") c.in-Ok-json-7.field-0 _ c.json-put-3.new.map.entries c.json-put-4.new.map.entries _ c.in-Ok-json-8.ensures.ok state
    (put_on (codes "slot") c.in-Ok-json-5.field-0 (whole slot) c.json-put-2.new.map.entries c.json-put-3.new.map.entries _ c.in-Ok-json-6.ensures.ok
    c.in-Ok-json-5.ensures
    (put_on (codes "role") c.in-Ok-json-3.field-0 _ c.json-put.new.map.entries c.json-put-2.new.map.entries _ c.in-Ok-json-4.ensures.ok role
    (put_on (codes "incarnation") c.in-Ok-json.field-0 _ c.json-new.result.entries c.json-put.new.map.entries no_members c.in-Ok-json-2.ensures.ok incarnation
    (ap members_view none)))))
