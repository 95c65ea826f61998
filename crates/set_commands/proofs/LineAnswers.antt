-- What a line comes to over a store is what the line is answered.
use Rattle.std.proofs.Common.{◌≡◌, ◌⊎◌, inl, inr, ℕ, ◌<◌, ◌≤◌, min, List, ◌++◌, length, take, sym, ◌∙◌, ap, subst, arith, Option, Ok, Err}
use Rattle.std.specs.Prelude.{IfErr, OnOk}
use Rattle.std.specs.Io.KnownBytes.{Appends}
use Rattle.std.proofs.lemmas.List.{take_all, length-take}
use Rattle.std.proofs.Math.Seq.{take-append_seam}
use Rattle.sector_model.specs.declared.refusal.Refusal.{Refusal}
use Rattle.array_io.specs.Believed.Views.{EndsIt}
use Rattle.volume_table.proofs.TooMany.{reads_too_many, writes_too_many}
use Rattle.volume_table.specs.Stands.{StoreView}
use Rattle.volume_table.specs.StoreCalls.{Applies, EndsStore}
use Rattle.volume_table.specs.StoreFunctions.{Answer, done_reply}
use Rattle.volume_table.specs.VolumeStep.{Blocks, Command, Create, Done, Extend, Names, OnVolumes, Read, Refused, Remove, Rename, Reply, Upgrade, Write}
use Rattle.volume_table.specs.Volumes.{Block}
use Rattle.volume_table.specs.declared.event.TheConstants.{MOST_BLOCKS_AT_ONCE}
use Rattle.set_commands.specs.declared.script.Outcome.{Outcome}
use Rattle.report.specs.Grammar.{Says}
use Rattle.report.specs.Replies.{reply_text}
use Rattle.report.specs.Kept.{kept}
use Rattle.report.specs.declared.parse.TheConstants.{KEPT_BLOCKS}
use Rattle.set_commands.specs.Run.{LineIsDone, LineIsLast, reply_in}
use Rattle.report.specs.Script.{Answers}
use Rattle.report.specs.declared.lines.TheConstants.{LONGEST_LINE}

small_or_many : (count : ℕ) → (count ≤ MOST_BLOCKS_AT_ONCE) ⊎ (MOST_BLOCKS_AT_ONCE < count)
small_or_many count = grind arith

-- a read of so many blocks as are kept, which are no more than may be read at once, is the read that was asked for; its blocks are the first of the buffer
pub read_done : (honest : Type 0) (name : List ℕ) (at count kept places : ℕ) (to beyond : List Block) (old new : StoreView) → kept ≡ min count KEPT_BLOCKS
    → places ≡ kept → places ≤ MOST_BLOCKS_AT_ONCE → length to ≡ places → Applies honest (OnVolumes (Read name at places)) old new (Blocks to)
    → Applies honest (OnVolumes (Read name at count)) old new (Blocks (take kept (to ++ beyond)))
read_done honest name at count kept places to beyond old new is as_many few long applies =
    let all : places ≡ count = omega (arith, is, as_many, few) in
    let k : kept ≡ length to = omega (arith, as_many, long) in
    let first : to ≡ take kept (to ++ beyond) = sym (ap (λ (n : ℕ). take n (to ++ beyond)) k ∙ take-append_seam to beyond) in
    subst (λ (n : ℕ). Applies honest (OnVolumes (Read name at n)) old new (Blocks (take kept (to ++ beyond)))) all
    (subst (λ (blocks : List Block). Applies honest (OnVolumes (Read name at places)) old new (Blocks blocks)) first applies)

-- one that is refused is refused so however many blocks were asked for
pub read_refused : (honest : Type 0) (name : List ℕ) (at count kept places : ℕ) (old new : StoreView) (refusal : Refusal) → kept ≡ min count KEPT_BLOCKS
    → places ≡ kept → Applies honest (OnVolumes (Read name at places)) old new (Refused refusal)
    → Applies honest (OnVolumes (Read name at count)) old new (Refused refusal)
read_refused honest name at count kept places old new refusal is as_many applies = elim (small_or_many count) [
  | inl small ↦ subst (λ (n : ℕ). Applies honest (OnVolumes (Read name at n)) old new (Refused refusal))
      (let all : places ≡ count = omega (arith, is, as_many, small) in all) applies
  | inr many ↦ reads_too_many honest name at count places old new refusal many (omega (arith, is, as_many, many)) applies
]

-- a write of the blocks that are kept is answered as one of all blocks is
pub write_answered : (honest : Type 0) (name : List ℕ) (at : ℕ) (blocks kept : List Block) (old new : StoreView) (answer : Answer)
    → kept ≡ take KEPT_BLOCKS blocks
    → OnOk answer (length kept ≤ MOST_BLOCKS_AT_ONCE) → Applies honest (OnVolumes (Write name at kept)) old new (done_reply answer)
    → Applies honest (OnVolumes (Write name at blocks)) old new (done_reply answer)
write_answered honest name at blocks kept old new (Ok done) is few applies =
    let short : length blocks ≤ KEPT_BLOCKS = omega (arith, ap length is, length-take KEPT_BLOCKS blocks, few) in
    subst (λ (those : List Block). Applies honest (OnVolumes (Write name at those)) old new Done) (is ∙ take_all KEPT_BLOCKS blocks short) applies
write_answered honest name at blocks kept old new (Err refusal) is few applies = elim (small_or_many (length blocks)) [
  | inl small ↦ subst (λ (those : List Block). Applies honest (OnVolumes (Write name at those)) old new (Refused refusal))
      (is ∙ take_all KEPT_BLOCKS blocks (omega (arith, small))) applies
  | inr many ↦ writes_too_many honest name at blocks kept old new refusal many (omega (arith, ap length is, length-take KEPT_BLOCKS blocks, many)) applies
]

-- a line that says a command is answered as the store answers that
pub command_answered : (honest : Type 0) (line : List ℕ) (command : Command) (old new : StoreView) (reply : Reply) → length line ≤ LONGEST_LINE
    → Says line command
    → Applies honest (OnVolumes command) old new reply → Answers honest line old new reply
command_answered honest line command old new reply short says applies = inl (command, record { short = short; says = says; applies = applies })

-- a command that is kept whole
abbrev IsKeptWhole : Command → Type 0
IsKeptWhole (Write name at blocks) = ⊥
IsKeptWhole command = Unit {0}

same_command : (asked command : Command) → OnVolumes asked ≡ OnVolumes command → asked ≡ command
same_command asked command is = cc

-- what is kept of a command is that command, but for a write
kept_whole : (asked command : Command) → OnVolumes asked ≡ OnVolumes (kept command) → IsKeptWhole asked → asked ≡ command
kept_whole asked Names is whole = same_command asked Names is
kept_whole asked Upgrade is whole = same_command asked Upgrade is
kept_whole asked (Create name count) is whole = same_command asked (Create name count) is
kept_whole asked (Extend name count) is whole = same_command asked (Extend name count) is
kept_whole asked (Remove name) is whole = same_command asked (Remove name) is
kept_whole asked (Rename old new) is whole = same_command asked (Rename old new) is
kept_whole asked (Read name at count) is whole = same_command asked (Read name at count) is
kept_whole asked (Write name at blocks) is whole =
    absurd (subst IsKeptWhole (same_command asked (Write name at (take KEPT_BLOCKS blocks)) is) whole)

-- a line is answered as the store answers what is kept of its command, where that is no write
pub line_answered : (honest : Type 0) (line : List ℕ) (asked command : Command) (old new : StoreView) (reply : Reply) → length line ≤ LONGEST_LINE
    → Says line command → OnVolumes asked ≡ OnVolumes (kept command) → IsKeptWhole asked → Applies honest (OnVolumes asked) old new reply
    → Answers honest line old new reply
line_answered honest line asked command old new reply short says is whole applies =
    command_answered honest line command old new reply short says
    (subst (λ (c : Command). Applies honest (OnVolumes c) old new reply) (kept_whole asked command is whole) applies)

-- the command of which a write is kept is a write, and these are its first blocks
write_of : (name : List ℕ) (at : ℕ) (blocks : List Block) (command : Command) → OnVolumes (Write name at blocks) ≡ OnVolumes (kept command)
    → (all : List Block) × (command ≡ Write name at all) × (blocks ≡ take KEPT_BLOCKS all)
write_of name at blocks Names is = let same = same_command (Write name at blocks) Names is in absurd (cc)
write_of name at blocks Upgrade is = let same = same_command (Write name at blocks) Upgrade is in absurd (cc)
write_of name at blocks (Create n count) is = let same = same_command (Write name at blocks) (Create n count) is in absurd (cc)
write_of name at blocks (Extend n count) is = let same = same_command (Write name at blocks) (Extend n count) is in absurd (cc)
write_of name at blocks (Remove n) is = let same = same_command (Write name at blocks) (Remove n) is in absurd (cc)
write_of name at blocks (Rename old new) is = let same = same_command (Write name at blocks) (Rename old new) is in absurd (cc)
write_of name at blocks (Read n a count) is = let same = same_command (Write name at blocks) (Read n a count) is in absurd (cc)
write_of name at blocks (Write n a all) is =
    let same = same_command (Write name at blocks) (Write n a (take KEPT_BLOCKS all)) is in (all, cc, cc)

-- a line that is a write is answered as the store answers the write of the blocks that are kept
pub write_line_answered : (honest : Type 0) (line name : List ℕ) (at : ℕ) (blocks : List Block) (command : Command) (old new : StoreView) (answer : Answer)
    → length line ≤ LONGEST_LINE → Says line command → OnVolumes (Write name at blocks) ≡ OnVolumes (kept command)
    → OnOk answer (length blocks ≤ MOST_BLOCKS_AT_ONCE)
    → Applies honest (OnVolumes (Write name at blocks)) old new (done_reply answer) → Answers honest line old new (done_reply answer)
write_line_answered honest line name at blocks command old new answer short says is few applies =
    let of = write_of name at blocks command is in
    command_answered honest line command old new (done_reply answer) short says
    (subst (λ (c : Command). Applies honest (OnVolumes c) old new (done_reply answer)) (sym of.1)
    (write_answered honest name at of.0 blocks old new answer of.2 few applies))

-- a reply that was written, and did not end the store
pub line_done : (honest : Type 0) (line : List ℕ) (old new : StoreView) (was is : Option (List ℕ)) (outcome : Outcome) (buffer : List Block) (result : Answer)
    → OnOk result ((held : List Block) → ¬ EndsStore (reply_in outcome held)) → Answers honest line old new (reply_in outcome buffer)
    → Appends was is (reply_text (reply_in outcome buffer)) → OnOk result (LineIsDone honest line old new was is)
line_done honest line old new was is outcome buffer (Ok done) goes answers written =
    record { reply = reply_in outcome buffer; answers = answers; goes = goes buffer; written = written }
line_done honest line old new was is outcome buffer (Err refusal) goes answers written = tt

-- one that ended it
pub line_last : (honest : Type 0) (line : List ℕ) (old new : StoreView) (was is : Option (List ℕ)) (outcome : Outcome) (buffer : List Block) (result : Answer)
    → IfErr result (λ refusal. EndsIt refusal × ((held : List Block) → reply_in outcome held ≡ Refused refusal))
    → Answers honest line old new (reply_in outcome buffer)
    → Appends was is (reply_text (reply_in outcome buffer)) → (refusal : Refusal) → result ≡ Err refusal → EndsIt refusal
    → LineIsLast honest line old new refusal was is
line_last honest line old new was is outcome buffer result ended answers written refusal err ends =
    let of : EndsIt refusal × ((held : List Block) → reply_in outcome held ≡ Refused refusal) =
    subst (λ (r : Answer). IfErr r (λ refusal. EndsIt refusal × ((held : List Block) → reply_in outcome held ≡ Refused refusal))) err ended in
    let refused : reply_in outcome buffer ≡ Refused refusal = of.1 buffer in record {
      answers = subst (Answers honest line old new) refused answers;
      ends = ends;
      written = subst (λ (reply : Reply). Appends was is (reply_text reply)) refused written;
    }
