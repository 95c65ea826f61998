-- An object that is built member by member.
use Rattle.std.proofs.Common.{◌≡◌, ◌∙◌, ℕ, List, String, Global, ap}
use Rattle.serde_json.specs.Data.{Data, Members, put}
use Rattle.serde_json.specs.View.{view, members_view}
use Rattle.serde_json.specs.declared.value.Value.{Value}

-- one member more
pub put_on : (key : List ℕ) (value : Value) (says : Data) (old new : List (String Global × Value)) (done : Members)
    → members_view new ≡ put key (view value) (members_view old)
    → view value ≡ says → members_view old ≡ done → members_view new ≡ put key says done
put_on key value says old new done more said before = more ∙ ap (λ d. put key d (members_view old)) said ∙ ap (put key says) before
