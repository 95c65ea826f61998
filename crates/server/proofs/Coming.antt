-- How far a server has come, one step more.
use Rattle.std.proofs.Common.{◌≡◌, ◌≢◌, ◌⊎◌, inl, inr, ℕ, ◌+◌, ◌<◌, ◌≤◌, List, [], ◌∷◌, ◌++◌, append_assoc, append-nil, length, All, take, refl, sym, ◌∙◌, ap, subst}
use Rattle.std.proofs.Common.{arith, Option, Some, None, Bool, true, false, Result, Ok, Err}
use Rattle.std.proofs.lemmas.Grind.{flat_map-append}
use Rattle.std.proofs.KnownBytes.{Appends-nil, Appends-trans, Consumes-nil, Consumes-trans}
use Rattle.std.specs.Io.KnownBytes.{Appends, Consumes}
use Rattle.sector_model.specs.declared.refusal.Refusal.{Refusal}
use Rattle.sector_model.specs.declared.refusal.Refusal.TheVariants.{BadCount, BadLine, ReadFault, TwoLost, Worn, WriteFault}
use Rattle.array_io.specs.Believed.Views.{ArrayView, EndsIt, IsEndOf}
use Rattle.batch.specs.Places.{Given}
use Rattle.report.specs.Replies.{refusal_line}
use Rattle.scrub.specs.Scrubbing.{Report}
use Rattle.report.specs.Script.{IsPart}
use Rattle.report.specs.Written.{AppendsPart}
use Rattle.requests.specs.Demands.{Demand, Together}
use Rattle.set_commands.specs.Run.{Streams, streams}
use Rattle.volume_table.proofs.EndedStore.{ends_by_these}
use Rattle.volume_table.proofs.StagedWrites.{none_wait}
use Rattle.volume_table.specs.Staging.{CommitsStaged, CommitsWrites, HoldSome, HoldsWrites}
use Rattle.volume_table.specs.Stands.{StoreView}
use Rattle.volume_table.specs.StoreCalls.{extents_for_store}
use Rattle.volume_table.specs.VolumeStep.{Command, OnVolumes}
use Rattle.volume_table.specs.StoreFunctions.{Answer}
use Rattle.server.specs.Answers.{EndsServing, IsServed, Told, TellsDone, TellsRefusal, told_text}
use Rattle.server.specs.Ends.{Commits, EndsStore, HasCome, IsBadRequest, MeetsBadRequest, MeetsNoRequest, NoneWaits, ServerState, StoppedByStore, StoppedWriting}
use Rattle.server.specs.Ends.{Stops, StopsAt, StopsReady, Waits, by_commit, by_request, ending, serving, state_of}
use Rattle.server.specs.Serving.{IsRefusedWrite, IsRequest, IsWrite, Line, Serves, input_of, spelled, texts_of, then_alone, then_answered, then_committed}
use Rattle.server.specs.Serving.{then_refused, then_staged, then_taken, then_together}
use Rattle.server.specs.declared.counts.TheConstants.{MOST_LINES_TOGETHER}

-- a bank that is honest before a commit is so in it
pub commits_for : (honest other : Type 0) (writes : List Command) (old new : StoreView) (answer : Answer) → (other → honest)
    → CommitsStaged honest writes old new answer → CommitsStaged other writes old new answer
commits_for honest other writes old new answer so staged = record { ended = staged.ended; going = λ goes. of_writes (staged.going goes) }
  where
    of_writes : CommitsWrites honest writes old new answer → CommitsWrites other writes old new answer
    of_writes commits = record {
      goes_on = commits.goes_on;
      generation = commits.generation;
      incarnations = commits.incarnations;
      spared = commits.spared;
      set_left = λ done command.
          let left = commits.set_left done command in
          record {
            devices = left.devices;
            are = record {
              failed = λ fair. left.are.failed (so fair);
              is_down = left.are.is_down;
              unusable = left.are.unusable;
              format = left.are.format;
              rows = left.are.rows;
              unsound = λ fair. left.are.unsound (so fair);
            };
            left = left.left;
          };
      ends = commits.ends;
      goes = commits.goes;
      keeps = commits.keeps;
      done = commits.done;
      moments = λ fair. commits.moments (so fair);
      settled = λ fair. commits.settled (so fair);
    }

-- what ends an array is 15 or 16
pub end_is_one : (old new : ArrayView) (counter : Type 0) (refusal : Refusal) → IsEndOf old new counter refusal → EndsIt refusal
end_is_one old new counter TwoLost is = tt
end_is_one old new counter Worn is = tt
end_is_one old new counter refusal is = is

-- ---- the input

-- one line more
pub input_more : (lines : List Line) (line : Line) → input_of (lines ++ line ∷ []) ≡ input_of lines ++ spelled line
input_more lines line = flat_map-append spelled lines (line ∷ []) ∙ ap (λ (rest : List ℕ). input_of lines ++ rest) (append-nil (spelled line))

-- a line that was read ahead is one of those that are served
pub served_too : (was is : Option (List ℕ)) (lines : List Line) (line : Line) → Consumes was is (input_of lines ++ spelled line)
    → Consumes was is (input_of (lines ++ line ∷ []) ++ [])
served_too was is lines line read = subst (Consumes was is) (sym (append-nil (input_of (lines ++ line ∷ [])) ∙ input_more lines line)) read

-- more was read
pub read_on : (was mid is : Option (List ℕ)) (before ahead more : List ℕ) → Consumes was mid (before ++ ahead) → Consumes mid is more
    → Consumes was is (before ++ (ahead ++ more))
read_on was mid is before ahead more first then =
    subst (Consumes was is) (append_assoc before ahead more) (Consumes-trans was mid is (before ++ ahead) more first then)

module _ (honest : Type 0) (start : StoreView) (was : Streams) where
  -- ---- where nothing waits

  pub come_ready : (parts : List Command) (left : ℕ) (ahead : List ℕ) (store : StoreView) (is : Streams) (waits : Given) (replies : List Told) (so_far : Report)
      → waits ≡ [] → replies ≡ [] → NoneWaits honest start was parts left ahead store is so_far
      → HasCome honest start was parts left ahead (state_of store is waits replies so_far)
  come_ready parts left ahead store is waits replies so_far empty none it = record {
    lines = it.lines;
    text = it.text;
    waiting = [];
    serves = subst (λ (r : List Told). Serves honest it.lines it.text [] r parts left so_far start store) (sym none) it.serves;
    holds = subst (λ (w : Given). HoldsWrites (extents_for_store store) store.keeps [] w) (sym empty) (none_wait (extents_for_store store) store.keeps);
    written = it.written;
    read = it.read;
  }

  pub ready_alone : (ahead : List ℕ) (store : StoreView) (is : Streams) (so_far : Report) → NoneWaits honest start was [] 0 ahead store is so_far
      → NoneWaits honest start was [] 1 ahead store is so_far
  ready_alone ahead store is so_far it = record { lines = it.lines; text = it.text; serves = then_alone it.serves; written = it.written; read = it.read }

  pub ready_together : (line : Line) (count : ℕ) (store : StoreView) (is : Streams) (so_far : Report) → IsRequest line (Together count) → 1 ≤ count
      → count ≤ MOST_LINES_TOGETHER → NoneWaits honest start was [] 0 (spelled line) store is so_far → NoneWaits honest start was [] count [] store is so_far
  ready_together line count store is so_far request least most it = record {
    lines = it.lines ++ line ∷ [];
    text = it.text;
    serves = then_together line count it.serves request least most;
    written = it.written;
    read = served_too was.remaining is.remaining it.lines line it.read;
  }

  pub ready_read : (left : ℕ) (ahead more : List ℕ) (store : StoreView) (remaining remaining' contents : Option (List ℕ)) (so_far : Report)
      → Consumes remaining remaining' more → NoneWaits honest start was [] left ahead store (streams remaining contents) so_far
      → NoneWaits honest start was [] left (ahead ++ more) store (streams remaining' contents) so_far
  ready_read left ahead more store remaining remaining' contents so_far then it = record {
    lines = it.lines;
    text = it.text;
    serves = it.serves;
    written = it.written;
    read = read_on was.remaining remaining remaining' (input_of it.lines) ahead more it.read then;
  }

  -- ---- while some may

  pub come_read : (parts : List Command) (left : ℕ) (ahead more : List ℕ) (store : StoreView) (remaining remaining' contents : Option (List ℕ)) (waits : Given)
      (replies : List Told) (so_far : Report) → Consumes remaining remaining' more
      → HasCome honest start was parts left ahead (state_of store (streams remaining contents) waits replies so_far)
      → HasCome honest start was parts left (ahead ++ more) (state_of store (streams remaining' contents) waits replies so_far)
  come_read parts left ahead more store remaining remaining' contents waits replies so_far then it = record {
    lines = it.lines;
    text = it.text;
    waiting = it.waiting;
    serves = it.serves;
    holds = it.holds;
    written = it.written;
    read = read_on was.remaining remaining remaining' (input_of it.lines) ahead more it.read then;
  }

  pub come_staged : (parts : List Command) (left : ℕ) (ahead : List ℕ) (store : StoreView) (is : Streams) (old new : Given) (replies : List Told)
      (so_far : Report) (part : Command)
      → ((writes : List Command) → HoldsWrites (extents_for_store store) store.keeps writes old
      → HoldsWrites (extents_for_store store) store.keeps (writes ++ part ∷ []) new)
      → HasCome honest start was parts left ahead (state_of store is old replies so_far)
      → HasCome honest start was (parts ++ part ∷ []) left ahead (state_of store is new replies so_far)
  come_staged parts left ahead store is old new replies so_far part more it = record {
    lines = it.lines;
    text = it.text;
    waiting = it.waiting ++ part ∷ [];
    serves = then_staged part it.serves;
    holds = more it.waiting it.holds;
    written = it.written;
    read = it.read;
  }

  pub come_taken : (parts : List Command) (left : ℕ) (line : Line) (store : StoreView) (is : Streams) (waits : Given) (replies : List Told) (so_far : Report)
      → IsWrite store line parts → HasCome honest start was parts (left + 1) (spelled line) (state_of store is waits replies so_far)
      → HasCome honest start was [] left [] (state_of store is waits (replies ++ TellsDone ∷ []) so_far)
  come_taken parts left line store is waits replies so_far write it = record {
    lines = it.lines ++ line ∷ [];
    text = it.text;
    waiting = it.waiting;
    serves = then_taken line it.serves write;
    holds = it.holds;
    written = it.written;
    read = served_too was.remaining is.remaining it.lines line it.read;
  }

  pub come_refused : (left : ℕ) (line : Line) (refusal : Refusal) (store : StoreView) (is : Streams) (waits : Given) (replies : List Told)
      (so_far : Report) → IsRefusedWrite store line refusal → HasCome honest start was [] (left + 1) (spelled line) (state_of store is waits replies so_far)
      → HasCome honest start was [] left [] (state_of store is waits (replies ++ TellsRefusal refusal ∷ []) so_far)
  come_refused left line refusal store is waits replies so_far refused it = record {
    lines = it.lines ++ line ∷ [];
    text = it.text;
    waiting = it.waiting;
    serves = then_refused line refusal it.serves refused;
    holds = it.holds;
    written = it.written;
    read = served_too was.remaining is.remaining it.lines line it.read;
  }

  -- some writes wait, whatever they are
  pub come_waits : (parts : List Command) (left : ℕ) (ahead : List ℕ) (is : ServerState) → HasCome honest start was parts left ahead is
      → Waits is.store is.waits
  come_waits parts left ahead is it = record { writes = it.waiting; holds = it.holds }

  -- ---- where it stops for good

  pub stops_ended : (store : StoreView) (is : Streams) (Come : (left : ℕ) (ahead : List ℕ) → Type 0) (refusal : Refusal) → EndsIt refusal
      → StoppedByStore honest start was refusal store is → StopsAt honest start was store is Come refusal
  stops_ended store is Come TwoLost ends it = it
  stops_ended store is Come Worn ends it = it
  stops_ended store is Come refusal ends it = absurd ends

  -- it does, whatever had come
  pub stops_still : (store : StoreView) (is : Streams) (Come Other : (left : ℕ) (ahead : List ℕ) → Type 0) (refusal : Refusal)
      → ((left : ℕ) (ahead : List ℕ) → Come left ahead → Other left ahead)
      → StopsAt honest start was store is Come refusal → StopsAt honest start was store is Other refusal
  stops_still store is Come Other TwoLost on it = it
  stops_still store is Come Other Worn on it = it
  stops_still store is Come Other WriteFault on it = it
  stops_still store is Come Other ReadFault on it = record { left = it.left; ahead = it.ahead; come = on it.left it.ahead it.come }
  stops_still store is Come Other BadLine on it =
      record { left = it.left; line = it.line; unbroken = it.unbroken; bad = it.bad; come = on it.left (it.line ++ 10 ∷ []) it.come }
  stops_still store is Come Other BadCount on it =
      record { left = it.left; line = it.line; unbroken = it.unbroken; bad = it.bad; come = on it.left (it.line ++ 10 ∷ []) it.come }
  stops_still store is Come Other refusal on it = absurd it

  -- ---- a commit

  module _ (then : Type 0) (so : honest → then) (parts : List Command) (left : ℕ) (ahead : List ℕ) (old new : StoreView)
      (remaining contents contents' : Option (List ℕ)) (waits : Given) (replies : List Told)
      (so_far : Report) (come : HasCome honest start was parts left ahead (state_of old (streams remaining contents) waits replies so_far)) where
    -- it was done, and the replies written
    pub come_committed : ((writes : List Command) → HoldsWrites (extents_for_store old) old.keeps writes waits → CommitsStaged then writes old new (Ok tt))
        → Appends contents contents' (texts_of replies) → NoneWaits honest start was parts left ahead new (streams remaining contents') so_far
    come_committed commits written = record {
      lines = come.lines;
      text = come.text ++ texts_of replies;
      serves = then_committed old come.serves (commits_for then honest come.waiting old new (Ok tt) so (commits come.waiting come.holds));
      written = Appends-trans was.contents contents contents' come.text (texts_of replies) come.written written;
      read = come.read;
    }

    -- it was done, and the writer failed
    pub come_cut : ((writes : List Command) → HoldsWrites (extents_for_store old) old.keeps writes waits → CommitsStaged then writes old new (Ok tt))
        → AppendsPart contents contents' (texts_of replies) → StoppedWriting honest start was new (streams remaining contents')
    come_cut commits cut = record {
      lines = come.lines;
      text = come.text ++ texts_of replies;
      ahead = ahead;
      part = come.text ++ cut.part;
      whole = serving (then_committed old come.serves (commits_for then honest come.waiting old new (Ok tt) so (commits come.waiting come.holds)));
      is_part = part_after come.text cut.part (texts_of replies) cut.is_part;
      written = Appends-trans was.contents contents contents' come.text cut.part come.written cut.written;
      read = come.read;
    }
      where
        part_after : (before part whole : List ℕ) → IsPart part whole → IsPart (before ++ part) (before ++ whole)
        part_after before part whole is =
            record { rest = is.rest; joined = append_assoc before part is.rest ∙ ap (λ (l : List ℕ). before ++ l) is.joined; some = is.some }

    -- it ended the store, and that was written
    pub come_lost : (refusal : Refusal) → EndsIt refusal
        → ((writes : List Command) → HoldsWrites (extents_for_store old) old.keeps writes waits → CommitsStaged then writes old new (Err refusal))
        → Appends contents contents' (refusal_line refusal) → StoppedByStore honest start was refusal new (streams remaining contents')
    come_lost refusal ends commits written = record {
      lines = come.lines;
      text = come.text;
      ahead = ahead;
      ends_it = ends;
      ends = by_commit old come.serves (commits_for then honest come.waiting old new (Err refusal) so (commits come.waiting come.holds));
      written = Appends-trans was.contents contents contents' come.text (refusal_line refusal) come.written written;
      read = come.read;
    }

    -- and the writer failed
    pub come_lost_cut : (refusal : Refusal) → EndsIt refusal
        → ((writes : List Command) → HoldsWrites (extents_for_store old) old.keeps writes waits → CommitsStaged then writes old new (Err refusal))
        → AppendsPart contents contents' (refusal_line refusal) → StoppedWriting honest start was new (streams remaining contents')
    come_lost_cut refusal ends commits cut = record {
      lines = come.lines;
      text = come.text ++ refusal_line refusal;
      ahead = ahead;
      part = come.text ++ cut.part;
      whole = ending refusal ends
          (by_commit old come.serves (commits_for then honest come.waiting old new (Err refusal) so (commits come.waiting come.holds)));
      is_part = record {
        rest = cut.is_part.rest;
        joined = append_assoc come.text cut.part cut.is_part.rest ∙ ap (λ (l : List ℕ). come.text ++ l) cut.is_part.joined;
        some = cut.is_part.some;
      };
      written = Appends-trans was.contents contents contents' come.text cut.part come.written cut.written;
      read = come.read;
    }

-- where nothing waits, no write does
pub waits_none : (store : StoreView) (waits : Given) → waits ≡ [] → Waits store waits
waits_none store waits empty = record {
  writes = [];
  holds = subst (λ (w : Given). HoldsWrites (extents_for_store store) store.keeps [] w) (sym empty) (none_wait (extents_for_store store) store.keeps);
}
