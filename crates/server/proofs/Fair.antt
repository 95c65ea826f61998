-- A bank that is honest before a request is so in it.
use Rattle.std.proofs.Common.{◌≡◌, ◌⊎◌, inl, inr, ℕ, ◌+◌, ◌≤◌, List, [], ◌∷◌, ◌++◌, refl, sym, ap, subst, Option, Some, None, Result, Ok, Err}
use Rattle.sector_model.specs.declared.refusal.Refusal.{Refusal}
use Rattle.requests.specs.Demands.{Demand, FailSlot, OnVolumes as Asks, ReadBlocks, RebuildSteps, ReplaceSlot, ScrubRows, Status as AsksStatus, Together}
use Rattle.requests.specs.Demands.{WriteBlocks, ZeroBlocks}
use Rattle.rebuild.specs.Rebuilding.{Progress}
use Rattle.scrub.specs.Scrubbing.{Report}
use Rattle.set_commands.specs.Steps.{Rebuilds, Steps, none_made, then_made}
use Rattle.volume_table.proofs.RunChains.{applies_for}
use Rattle.volume_table.specs.Stands.{StoreView}
use Rattle.volume_table.specs.StoreFunctions.{Answer}
use Rattle.volume_table.specs.VolumeStep.{Command}
use Rattle.volume_table.specs.Volumes.{Block}
use Rattle.volume_table.specs.Zeroing.{AreCommittedInTurn, CommitsInTurn, EndsCommitting, Zeroes, commit_then, none_committed}
use Rattle.server.proofs.Coming.{commits_for}
use Rattle.server.specs.Answers.{Answers, IsServed, ReadsParts, ReadsRange, StopsInRead, Told, TellsBlocks, TellsDone, TellsProgress, TellsRefusal, TellsScrub}
use Rattle.server.specs.Answers.{TellsStatus, TellsVolumes, none_read, then_read}
use Rattle.server.specs.Scrubs.{ScrubsOn}

module _ (honest other : Type 0) (so : other → honest) where
  reads_for : (name : List ℕ) (at end : ℕ) (blocks : List Block) (old new : StoreView) → ReadsParts honest name at end blocks old new
      → ReadsParts other name at end blocks old new
  reads_for name at end blocks old new none_read = none_read
  reads_for name at end blocks old new (then_read {end = before} {blocks = first} mid part earlier least most applies) =
      then_read mid part (reads_for name at before first old mid earlier) least most (applies_for honest other _ mid new _ so applies)

  range_for : (name : List ℕ) (at count : ℕ) (old new : StoreView) (told : Told) → ReadsRange honest name at count old new told
      → ReadsRange other name at count old new told
  range_for name at count old new (TellsBlocks blocks) range = reads_for name at (at + count) blocks old new range
  range_for name at count old new (TellsRefusal refusal) (inl refuses) = inl refuses
  range_for name at count old new (TellsRefusal refusal) (inr stops) = inr record {
    end = stops.end;
    blocks = stops.blocks;
    mid = stops.mid;
    before = reads_for name at stops.end stops.blocks old stops.mid stops.before;
    part = stops.part;
    least = stops.least;
    most = stops.most;
    within = stops.within;
    refused = applies_for honest other _ stops.mid new _ so stops.refused;
  }
  range_for name at count old new TellsDone range = absurd range
  range_for name at count old new (TellsVolumes volumes) range = absurd range
  range_for name at count old new (TellsStatus json) range = absurd range
  range_for name at count old new (TellsProgress format rows progress) range = absurd range
  range_for name at count old new (TellsScrub report) range = absurd range

  turns_for : (writes : List Command) (old new : StoreView) → AreCommittedInTurn honest writes old new → AreCommittedInTurn other writes old new
  turns_for writes old new none_committed = none_committed
  turns_for all old new (commit_then {more = more} mid writes commits true_to rest) =
      commit_then mid writes (commits_for honest other writes old mid (Ok tt) so commits) (λ fair. true_to (so fair)) (turns_for more mid new rest)

  in_turn_for : (writes : List Command) (old new : StoreView) (answer : Answer) → CommitsInTurn honest writes old new answer
      → CommitsInTurn other writes old new answer
  in_turn_for writes old new (Ok done) commits = turns_for writes old new commits
  in_turn_for writes old new (Err refusal) commits = record {
    done = commits.done;
    last = commits.last;
    undone = commits.undone;
    parts = commits.parts;
    mid = commits.mid;
    before = turns_for commits.done old commits.mid commits.before;
    ends = commits_for honest other commits.last commits.mid new (Err refusal) so commits.ends;
  }

  zeroes_for : (name : List ℕ) (at count : ℕ) (old new : StoreView) (answer : Answer) → Zeroes honest name at count old new answer
      → Zeroes other name at count old new answer
  zeroes_for name at count old new answer zeroes = record {
    ended = zeroes.ended;
    going = λ goes. elim (zeroes.going goes) [
      | inl refuses ↦ inl refuses
      | inr blocks ↦ inr record {
        writes = blocks.writes;
        zeros = blocks.zeros;
        admitted = blocks.admitted;
        commits = in_turn_for blocks.writes old new answer blocks.commits;
      }
    ];
  }

  steps_for : (made : ℕ) (old new : StoreView) → Steps honest made old new → Steps other made old new
  steps_for made old new (none_made none same) = none_made none same
  steps_for made old new (then_made before position mid counted earlier rebuilds) =
      then_made before position mid counted (steps_for before old mid earlier) (applies_for honest other _ mid new _ so rebuilds)

  rebuilds_for : (steps : Option ℕ) (old new : StoreView) (answer : Result Progress Refusal) → Rebuilds honest steps old new answer
      → Rebuilds other steps old new answer
  rebuilds_for steps old new answer rebuilds = record {
    before = rebuilds.before;
    mid = rebuilds.mid;
    steps_before = steps_for rebuilds.before old rebuilds.mid rebuilds.steps_before;
    last = applies_for honest other _ rebuilds.mid new _ so rebuilds.last;
    no_more = rebuilds.no_more;
    all_made = rebuilds.all_made;
  }

  answers_for : (demand : Demand) (old new : StoreView) (told : Told) → Answers honest demand old new told → Answers other demand old new told
  answers_for (ReadBlocks name at count) old new told answers = (answers.0, answers.1, range_for name at count old new told answers.2)
  answers_for (ZeroBlocks name at count) old new told answers =
      (answers.0, answers.1, (answers.2.0, zeroes_for name at count old new answers.2.0 answers.2.1, answers.2.2))
  answers_for (Asks command) old new told answers = (answers.0, applies_for honest other _ old new answers.0 so answers.1, answers.2)
  answers_for AsksStatus old new told answers = answers
  answers_for (FailSlot slot) old new told answers = (answers.0, applies_for honest other _ old new _ so answers.1, answers.2)
  answers_for (ReplaceSlot slot) old new told answers = answers
  answers_for (RebuildSteps steps) old new told answers = (answers.0, rebuilds_for (Some steps) old new answers.0 answers.1, answers.2)
  answers_for (ScrubRows rows) old new told answers = absurd answers
  answers_for (Together lines) old new told answers = absurd answers
  answers_for (WriteBlocks name at count) old new told answers = absurd answers

  pub served_for : (demand : Demand) (old new : StoreView) (told : Told) → IsServed honest demand old new told → IsServed other demand old new told
  served_for demand old new told served =
      record { answers = answers_for demand old new told served.answers; going = served.going; geometry = served.geometry }

  pub scrubs_for : (rows : ℕ) (old new : StoreView) (so_far after : Report) (told : Told) → ScrubsOn honest rows old new so_far after told
      → ScrubsOn other rows old new so_far after told
  scrubs_for rows old new so_far after told scrubs =
      record { answer = scrubs.answer; scrubs = applies_for honest other _ old new _ so scrubs.scrubs; is = scrubs.is }
