-- A request is answered at once, where nothing waits.
use Rattle.std.proofs.Common.{◌≡◌, ◌⊎◌, inl, inr, ℕ, List, [], ◌∷◌, ◌++◌, append_assoc, refl, sym, ◌∙◌, ap, subst, Option, Some, None, Result, Ok, Err}
use Rattle.std.proofs.KnownBytes.{Appends-trans}
use Rattle.std.specs.Prelude.{IfErr, OnErr, OnOk}
use Rattle.std.specs.Io.KnownBytes.{Appends}
use Rattle.sector_model.specs.declared.refusal.Refusal.{Refusal}
use Rattle.sector_model.specs.declared.refusal.Refusal.TheVariants.{WriteFault}
use Rattle.array_io.specs.Believed.Views.{EndsIt}
use Rattle.report.specs.Replies.{refusal_line}
use Rattle.report.specs.Written.{AppendsPart}
use Rattle.requests.specs.Demands.{Demand, ScrubRows}
use Rattle.scrub.specs.Scrubbing.{Report}
use Rattle.set_commands.specs.Run.{Streams, streams}
use Rattle.volume_table.proofs.EndedStore.{ends_or_not}
use Rattle.volume_table.specs.Stands.{StoreView}
use Rattle.server.proofs.Coming.{served_too, stops_ended}
use Rattle.server.proofs.Fair.{scrubs_for, served_for}
use Rattle.server.specs.Answers.{EndsServing, IsServed, Told, TellsBlocks, TellsDone, TellsProgress, TellsRefusal, TellsScrub, TellsStatus, TellsVolumes, told_text}
use Rattle.array_io.specs.Believed.Holds.{row_count}
use Rattle.volume_table.specs.StoreFunctions.{ScrubsRows}
use Rattle.volume_table.specs.Volumes.{Block}
use Rattle.server.specs.Ends.{Commits, EndsStore, NoneWaits, StopsReady, StoppedWriting, Whole, by_request, by_scrub, ending, serving}
use Rattle.server.specs.Scrubs.{IsScrubTold, ScrubsOn, going_on}
use Rattle.server.specs.Serving.{IsRequest, Line, Serves, input_of, spelled, then_answered, then_scrubbed}

-- what is told ends the server, or it doesn't
data EndsOrNot (told : Told) : Type 0 where
  goes_on : ¬ EndsServing told → EndsOrNot told
  ends_by : (refusal : Refusal) → EndsIt refusal → told ≡ TellsRefusal refusal → EndsOrNot told

told_ends : (told : Told) → EndsOrNot told
told_ends (TellsRefusal refusal) = elim (ends_or_not refusal) [
  | inl ends ↦ ends_by refusal ends refl
  | inr not ↦ goes_on not
]
told_ends TellsDone = goes_on (λ no. no)
told_ends (TellsBlocks blocks) = goes_on (λ no. no)
told_ends (TellsVolumes volumes) = goes_on (λ no. no)
told_ends (TellsStatus json) = goes_on (λ no. no)
told_ends (TellsProgress format rows progress) = goes_on (λ no. no)
told_ends (TellsScrub report) = goes_on (λ no. no)

module _ (honest : Type 0) (start : StoreView) (was : Streams) (line : Line) (old new : StoreView) (remaining contents contents' : Option (List ℕ))
    (so_far after : Report) (told : Told)
    (on : (lines : List Line) (text : List ℕ) → Serves honest lines text [] [] [] 0 so_far start old → ¬ EndsServing told
    → Serves honest (lines ++ line ∷ []) (text ++ told_text told) [] [] [] 0 after start new)
    (last : (lines : List Line) (text : List ℕ) (refusal : Refusal) → Serves honest lines text [] [] [] 0 so_far start old → told ≡ TellsRefusal refusal
    → EndsStore honest start refusal (lines ++ line ∷ []) text new)
    (ready : NoneWaits honest start was [] 0 (spelled line) old (streams remaining contents) so_far) where
  pub answered_on : ¬ EndsServing told → Appends contents contents' (told_text told)
      → NoneWaits honest start was [] 0 [] new (streams remaining contents') after
  answered_on goes written = record {
    lines = ready.lines ++ line ∷ [];
    text = ready.text ++ told_text told;
    serves = on ready.lines ready.text ready.serves goes;
    written = Appends-trans was.contents contents contents' ready.text (told_text told) ready.written written;
    read = served_too was.remaining remaining ready.lines line ready.read;
  }

  pub answered_last : (refusal : Refusal) → EndsIt refusal → told ≡ TellsRefusal refusal → Appends contents contents' (told_text told)
      → StopsReady honest start was new (streams remaining contents') refusal
  answered_last refusal ends is written =
      stops_ended honest start was new (streams remaining contents')
      (λ l a. (s : Report) × NoneWaits honest start was [] l a new (streams remaining contents') s)
      refusal ends record {
        lines = ready.lines ++ line ∷ [];
        text = ready.text;
        ahead = [];
        ends_it = ends;
        ends = last ready.lines ready.text refusal ready.serves is;
        written = Appends-trans was.contents contents contents' ready.text (refusal_line refusal) ready.written
            (subst (λ (t : Told). Appends contents contents' (told_text t)) is written);
        read = served_too was.remaining remaining ready.lines line ready.read;
      }

  cut_whole : (text : List ℕ) → Whole honest start (ready.lines ++ line ∷ []) (ready.text ++ text) new → AppendsPart contents contents' text
      → StoppedWriting honest start was new (streams remaining contents')
  cut_whole text whole cut = record {
    lines = ready.lines ++ line ∷ [];
    text = ready.text ++ text;
    ahead = [];
    part = ready.text ++ cut.part;
    whole = whole;
    is_part = record {
      rest = cut.is_part.rest;
      joined = append_assoc ready.text cut.part cut.is_part.rest ∙ ap (λ (l : List ℕ). ready.text ++ l) cut.is_part.joined;
      some = cut.is_part.some;
    };
    written = Appends-trans was.contents contents contents' ready.text cut.part ready.written cut.written;
    read = served_too was.remaining remaining ready.lines line ready.read;
  }

  pub answered_cut : (refusal : Refusal) → refusal ≡ WriteFault → AppendsPart contents contents' (told_text told)
      → StopsReady honest start was new (streams remaining contents') refusal
  answered_cut refusal is cut = subst (StopsReady honest start was new (streams remaining contents')) (sym is) (elim (told_ends told) [
    | goes_on goes ↦ cut_whole (told_text told) (serving (on ready.lines ready.text ready.serves goes)) cut
    | ends_by by ends same ↦ cut_whole (refusal_line by) (ending by ends (last ready.lines ready.text by ready.serves same))
        (subst (λ (t : Told). AppendsPart contents contents' (told_text t)) same cut)
  ])

  -- by whether it ended the store
  pub answered_by : (result : Result (Unit {0}) Refusal) → OnOk result (¬ EndsServing told)
      → IfErr result (λ refusal. EndsIt refusal × (told ≡ TellsRefusal refusal))
      → Appends contents contents' (told_text told) → Commits honest start was [] 0 [] result new (streams remaining contents') after
  answered_by (Ok done) goes ends written = answered_on goes written
  answered_by (Err refusal) goes ends written = answered_last refusal ends.0 ends.1 written

  -- by what the writer answered, where it did not end the store
  pub answered_if_written : (result : Result (Unit {0}) Refusal) → ¬ EndsServing told → OnOk result (Appends contents contents' (told_text told))
      → OnErr result (AppendsPart contents contents' (told_text told)) → IfErr result (λ refusal. refusal ≡ WriteFault)
      → Commits honest start was [] 0 [] result new (streams remaining contents') after
  answered_if_written (Ok done) goes written cut kind = answered_on goes written
  answered_if_written (Err refusal) goes written cut kind = answered_cut refusal kind cut

-- whatever the buffer holds
pub at_buffer_ok : (Tells : List Block → Told) (buffer : List Block) (result : Result (Unit {0}) Refusal)
    → OnOk result ((b : List Block) → ¬ EndsServing (Tells b)) → OnOk result (¬ EndsServing (Tells buffer))
at_buffer_ok Tells buffer (Ok done) goes = goes buffer
at_buffer_ok Tells buffer (Err refusal) goes = tt

pub at_buffer_err : (Tells : List Block → Told) (buffer : List Block) (result : Result (Unit {0}) Refusal)
    → IfErr result (λ refusal. EndsIt refusal × ((b : List Block) → Tells b ≡ TellsRefusal refusal))
    → IfErr result (λ refusal. EndsIt refusal × (Tells buffer ≡ TellsRefusal refusal))
at_buffer_err Tells buffer (Ok done) ends = tt
at_buffer_err Tells buffer (Err refusal) ends = (ends.0, ends.1 buffer)

-- ---- one that a store answers

module _ (honest : Type 0) (start : StoreView) (line : Line) (then : Type 0) (so : honest → then) (old new : StoreView) (so_far : Report) (told : Told)
    (demand : Demand) (request : IsRequest line demand) (served : IsServed then demand old new told) where
  pub served_on : (lines : List Line) (text : List ℕ) → Serves honest lines text [] [] [] 0 so_far start old → ¬ EndsServing told
      → Serves honest (lines ++ line ∷ []) (text ++ told_text told) [] [] [] 0 so_far start new
  served_on lines text serves goes = then_answered old line demand told serves request (served_for then honest so demand old new told served) goes

  pub served_last : (lines : List Line) (text : List ℕ) (refusal : Refusal) → Serves honest lines text [] [] [] 0 so_far start old → told ≡ TellsRefusal refusal
      → EndsStore honest start refusal (lines ++ line ∷ []) text new
  served_last lines text refusal serves is =
      by_request old line demand serves request (subst (IsServed honest demand old new) is (served_for then honest so demand old new told served))

-- ---- some rows that are scrubbed

module _ (honest : Type 0) (start : StoreView) (line : Line) (then : Type 0) (so : honest → then) (old new : StoreView) (so_far after : Report) (told : Told)
    (rows : ℕ) (request : IsRequest line (ScrubRows rows)) (scrubs : ScrubsOn then rows old new so_far after told)
    (going : ¬ EndsServing told → new.ended ≡ None) where
  pub scrubbed_on : (lines : List Line) (text : List ℕ) → Serves honest lines text [] [] [] 0 so_far start old → ¬ EndsServing told
      → Serves honest (lines ++ line ∷ []) (text ++ told_text told) [] [] [] 0 after start new
  scrubbed_on lines text serves goes =
      then_scrubbed old line rows after told serves request (scrubs_for then honest so rows old new so_far after told scrubs) (going goes)

  pub scrubbed_last : (lines : List Line) (text : List ℕ) (refusal : Refusal) → Serves honest lines text [] [] [] 0 so_far start old
      → told ≡ TellsRefusal refusal → EndsStore honest start refusal (lines ++ line ∷ []) text new
  scrubbed_last lines text refusal serves is =
      by_scrub old line rows after serves request
      (subst (ScrubsOn honest rows old new so_far after) is (scrubs_for then honest so rows old new so_far after told scrubs))

-- what a part of a scrub came to
pub scrubs_on : (honest : Type 0) (rows from : ℕ) (old new : StoreView) (so_far before after : Report) (answer : Result Report Refusal) (told : Told)
    → before ≡ going_on (row_count old.array.table) so_far → from ≡ rows → ScrubsRows honest before.rows from old new answer
    → IsScrubTold before answer so_far after told → ScrubsOn honest rows old new so_far after told
scrubs_on honest rows from old new so_far before after answer told same count scrubs is = record {
  answer = answer;
  scrubs = subst (λ (b : Report). ScrubsRows honest b.rows rows old new answer) same
      (subst (λ (n : ℕ). ScrubsRows honest before.rows n old new answer) count scrubs);
  is = subst (λ (b : Report). IsScrubTold b answer so_far after told) same is;
}

pub scrub_goes : (honest : Type 0) (first rows : ℕ) (old new : StoreView) (so_far before after : Report) (answer : Result Report Refusal) (told : Told)
    → old.ended ≡ None → ScrubsRows honest first rows old new answer → IsScrubTold before answer so_far after told → ¬ EndsServing told → new.ended ≡ None
scrub_goes honest first rows old new so_far before after (Ok part) told going scrubs is goes = (scrubs.going going).goes (λ no. no)
scrub_goes honest first rows old new so_far before after (Err refusal) told going scrubs is goes =
    (scrubs.going going).goes (subst (λ (t : Told). ¬ EndsServing t) is.1 goes)

-- where the refusal ended the store, or didn't
pub scrub_refused : (refusal : Refusal) (result : Result (Unit {0}) Refusal) → OnOk result (¬ EndsIt refusal)
    → IfErr result (λ other. (other ≡ refusal) × EndsIt refusal) → OnOk result (¬ EndsServing (TellsRefusal refusal))
    × IfErr result (λ other. EndsIt other × (TellsRefusal refusal ≡ TellsRefusal other))
scrub_refused refusal (Ok done) goes ends = (goes, tt)
scrub_refused refusal (Err other) goes ends = (tt, (subst EndsIt (sym ends.0) ends.1, ap TellsRefusal (sym ends.0)))
