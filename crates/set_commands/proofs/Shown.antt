-- What is shown of how far a command is.
use Rattle.std.proofs.Common.{◌≡◌, ◌-◌, ℕ, Option, Some, None, ap, refl, subst}
use Rattle.std.specs.Option.{option_map}
use Rattle.std.specs.Prelude.{◌↔◌, IfSome, IsNone}
use Rattle.set_commands.specs.declared.progress.Left.{Left}
use Rattle.set_commands.specs.declared.progress.Speed.{Speed}
use Rattle.set_commands.specs.Progress.{IsLeft, IsShown, left_of, percent_of, speed_of, time_left_of}

left_by : (elapsed done total : ℕ) (left : Option ℕ) → (IsNone left ↔ (done ≡ 0)) → IfSome left (λ millis. millis ≡ time_left_of elapsed done total)
    → IsLeft elapsed done total (option_map left_of left)
left_by elapsed done total None none some = none.0 refl
left_by elapsed done total (Some millis) none some = ap left_of some

pub shown_by : (Reads : Option ℕ → Type 0) (first last elapsed done total percent : ℕ) (speed : Option Speed) (left : Option ℕ) (told : Option Left)
    → Reads (Some first) → Reads (Some last) → elapsed ≡ last - first → percent ≡ percent_of done total → speed ≡ speed_of elapsed done
    → (IsNone left ↔ (done ≡ 0)) → IfSome left (λ millis. millis ≡ time_left_of elapsed done total) → told ≡ option_map left_of left
    → IsShown Reads percent speed told
shown_by Reads first last elapsed done total percent speed left told began looked same exact quick none some is = record {
  done = done;
  total = total;
  first = first;
  last = last;
  began = began;
  looked = looked;
  percent_is = exact;
  speed_is = subst (λ (e : ℕ). speed ≡ speed_of e done) same quick;
  left_is = rw is (subst (λ (e : ℕ). IsLeft e done total (option_map left_of left)) same (left_by elapsed done total left none some));
}
