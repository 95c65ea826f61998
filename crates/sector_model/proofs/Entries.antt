-- What the entries of a log put into sectors.
use Rattle.std.proofs.Common.{◌≡◌, ◌≤◌, ◌<◌, ◌+◌, ℕ, Bool, true, false, List, [], ◌∷◌, ◌++◌, length, get_or, drop, refl, sym, ◌∙◌, ap, arith, ◌==◌, ◌&&◌}
use Rattle.std.specs.Prelude.{nat_lt, if◌then◌else◌}
use Rattle.std.proofs.lemmas.Bool.{eq-eqb}
use Rattle.std.proofs.lemmas.List.{drop_more, length-append}
use Rattle.sector_model.specs.declared.memory.Entry.{Entry}
use Rattle.sector_model.specs.declared.event.Event.{Event}
use Rattle.sector_model.specs.declared.event.Event.TheVariants.{Quiet, Wrote, Lost, Flushed, DeviceFailed}
use Rattle.sector_model.specs.History.{Bytes}
use Rattle.sector_model.specs.Memory.{put_by, put_by_all, room_after}

one_if : (b : Bool) (v : Bytes) → length (if b then v ∷ [] else []) ≤ 1
one_if true v = omega arith
one_if false v = omega arith

pub put_by-most : (e : Event) (room d a : ℕ) → length (put_by e room d a) ≤ 1
put_by-most Quiet room d a = omega arith
put_by-most (Wrote device at value) room d a = one_if (d == device && a == at) value
put_by-most (Lost device at value) room d a = one_if (d == device && a == at && nat_lt 0 room) value
put_by-most (Flushed device) room d a = omega arith
put_by-most (DeviceFailed device) room d a = omega arith

-- an entry puts one candidate at most
pub put_by_all-most : (log : List Entry) (room d a : ℕ) → length (put_by_all log room d a) ≤ length log
put_by_all-most [] room d a = omega arith
put_by_all-most (entry ∷ log) room d a =
    omega (
      arith,
      length-append (put_by entry.event room d a) (put_by_all log (room_after entry.event room) d a),
      put_by-most entry.event room d a,
      put_by_all-most log (room_after entry.event room) d a,
    )

-- what a read of a log answers after its end
abbrev pub no_entry : Entry
no_entry = record { call = 0; event = Quiet }

-- what the first entry of the rest puts comes first
pub put_by_all-more : (log : List Entry) (i room after d a : ℕ) → i < length log → after ≡ room_after (get_or log i no_entry).event room
    → put_by_all (drop i log) room d a ≡ put_by (get_or log i no_entry).event room d a ++ put_by_all (drop (i + 1) log) after d a
put_by_all-more log i room after d a within is =
    ap (λ (l : List Entry). put_by_all l room d a) (drop_more log i no_entry within)
    ∙ ap (λ (r : ℕ). put_by (get_or log i no_entry).event room d a ++ put_by_all (drop (i + 1) log) r d a) (sym is)

-- the entry there puts a candidate
pub put_by_all-some : (log : List Entry) (i room d a : ℕ) (v : Bytes) → i < length log
    → put_by (get_or log i no_entry).event room d a ≡ (if a == a then v ∷ [] else []) → 0 < length (put_by_all (drop i log) room d a)
put_by_all-some log i room d a v within puts =
    let after = room_after (get_or log i no_entry).event room in
    let one : length (put_by (get_or log i no_entry).event room d a) ≡ 1 =
    ap length puts ∙ ap (λ (b : Bool). length (if b then v ∷ [] else [])) (eq-eqb a a refl) in
    omega (
      arith,
      ap length (put_by_all-more log i room after d a within refl),
      length-append (put_by (get_or log i no_entry).event room d a)
          (put_by_all (drop (i + 1) log) after d a),
      one,
    )
