-- A script is answered line by line.
use Rattle.std.proofs.Common.{◌+◌, ◌≡◌, ◌⊎◌, inl, inr, ℕ, ◌<◌, ◌≤◌, List, [], ◌∷◌, ◌++◌, append_assoc, append-nil, length, take, refl, sym, ◌∙◌, ap, subst}
use Rattle.std.proofs.Common.{arith, Option, Some, None, Bool, true, false, Result, Ok, Err}
use Rattle.std.specs.Prelude.{IfSome}
use Rattle.std.proofs.lemmas.List.{take_all, length-take}
use Rattle.std.proofs.lemmas.Grind.{flat_map-append}
use Rattle.std.specs.Io.KnownBytes.{Appends}
use Rattle.std.proofs.KnownBytes.{Appends-nil, Appends-trans}
use Rattle.sector_model.specs.declared.refusal.Refusal.{Refusal}
use Rattle.sector_model.specs.declared.refusal.Refusal.TheVariants.{Memory, ReadFault, WriteFault}
use Rattle.array_io.specs.Believed.Views.{EndsIt}
use Rattle.volume_table.proofs.RunChains.{applies_for}
use Rattle.volume_table.specs.Stands.{StoreView}
use Rattle.volume_table.specs.StoreCalls.{EndsStore}
use Rattle.volume_table.specs.VolumeStep.{OnVolumes, Refused, Reply}
use Rattle.report.specs.Grammar.{IsBadLine, Says}
use Rattle.report.specs.Lines.{GivesLine, HasNoLine, StopsInLine}
use Rattle.report.specs.Replies.{refusal_line, reply_text}
use Rattle.set_commands.specs.Run.{AreAllOf, AreReadOf, AreReadWhole, HasAnswered, HasCome, HasRun, IsScriptRefusal, LineIsCut, LineIsDone, LineIsLast}
use Rattle.set_commands.specs.Run.{StoppedByStore, StoppedReading, StoppedWriting, Streams, streams}
use Rattle.report.specs.Script.{Answers, Serves, lines_of, none_read, texts_of, then_read}
use Rattle.report.specs.declared.lines.TheConstants.{LONGEST_LINE}

-- one line more
serves_more : {honest : Type 0} {lines : List (List ℕ)} {replies : List Reply} {old mid new : StoreView} → Serves honest lines replies old mid
    → (line : List ℕ) (reply : Reply)
    → Answers honest line mid new reply → ¬ EndsStore reply → Serves honest (lines ++ line ∷ []) (replies ++ reply ∷ []) old new
serves_more none_read line reply answers goes = then_read _ line reply answers goes none_read
serves_more (then_read next first told answered on rest) line reply answers goes =
    then_read next first told answered on (serves_more rest line reply answers goes)

texts_more : (replies : List Reply) (reply : Reply) → texts_of (replies ++ reply ∷ []) ≡ texts_of replies ++ reply_text reply
texts_more replies reply = flat_map-append reply_text replies (reply ∷ []) ∙ ap (λ (text : List ℕ). texts_of replies ++ text) (append-nil (reply_text reply))

-- a line of which the first 65,536 bytes were looked at
bad_whole : (line kept : List ℕ) → kept ≡ take (LONGEST_LINE + 1) line → IsBadLine kept → IsBadLine line
bad_whole line kept is (inl long) = inl (omega (arith, ap length is, length-take (LONGEST_LINE + 1) line, long))
bad_whole line kept is (inr none) = by_length (le_or_lt (length line))
  where
    le_or_lt : (n : ℕ) → (n ≤ LONGEST_LINE + 1) ⊎ (LONGEST_LINE + 1 < n)
    le_or_lt n = grind arith

    by_length : (length line ≤ LONGEST_LINE + 1) ⊎ (LONGEST_LINE + 1 < length line) → IsBadLine line
    by_length (inl short) = inr (λ command says. none command (subst (λ (l : List ℕ). Says l command) (sym (is ∙ take_all (LONGEST_LINE + 1) line short)) says))
    by_length (inr long) = inl (omega (arith, long))

whole_line : (honest : Type 0) (line kept : List ℕ) (old new : StoreView) (reply : Reply) → kept ≡ take (LONGEST_LINE + 1) line
    → Answers honest kept old new reply → Answers honest line old new reply
whole_line honest line kept old new reply is (inl answered) =
    let short : length line ≤ LONGEST_LINE = omega (arith, ap length is, length-take (LONGEST_LINE + 1) line, answered.1.short) in
    let same : kept ≡ line = is ∙ take_all (LONGEST_LINE + 1) line (omega (arith, short)) in
    subst (λ (l : List ℕ). Answers honest l old new reply) same (inl answered)
whole_line honest line kept old new reply is (inr refused) =
    inr record { bad = bad_whole line kept is refused.bad; answer = refused.answer; same = refused.same }

-- A line was read. Of a reader that tells its bytes it is the next of the script, of which the first 65,536 bytes are kept; of another it is what is kept.
pub record LineRead (remaining remaining' : Option (List ℕ)) (kept : List ℕ) : Type 0 where
  pub line : List ℕ
  pub kept_of : (kept ≡ take (LONGEST_LINE + 1) line) ⊎ (kept ≡ line)
  pub read : (script : List ℕ) → remaining ≡ Some script → (rest : List ℕ) × (lines_of script ≡ line ∷ lines_of rest) × (remaining' ≡ Some rest)

pub line_read : (remaining remaining' : Option (List ℕ)) (kept : List ℕ) → IfSome remaining (λ script. GivesLine script remaining' kept)
    → LineRead remaining remaining' kept
line_read None remaining' kept given = record { line = kept; kept_of = inr refl; read = λ script is. absurd (cc) }
line_read (Some script) remaining' kept gives = record {
  line = gives.line;
  kept_of = inl gives.first;
  read = λ other is. (gives.rest, let same : other ≡ script = cc in ap lines_of same ∙ gives.next.lines, gives.left);
}

-- the whole line is answered as what was kept of it
answered_whole : (honest : Type 0) {remaining remaining' : Option (List ℕ)} {kept : List ℕ} (read : LineRead remaining remaining' kept) (old new : StoreView)
    (reply : Reply)
    → Answers honest kept old new reply → Answers honest read.line old new reply
answered_whole honest read old new reply answers = elim read.kept_of [
  | inl first ↦ whole_line honest read.line _ old new reply first answers
  | inr same ↦ subst (λ (l : List ℕ). Answers honest l old new reply) same answers
]

-- a bank that is honest before a call is so in it
answers_for : (honest other : Type 0) (line : List ℕ) (old new : StoreView) (reply : Reply) → (other → honest)
    → Answers honest line old new reply → Answers other line old new reply
answers_for honest other line old new reply so (inl (command, is)) = inl
    (command, record { short = is.short; says = is.says; applies = applies_for honest other (OnVolumes command) old new reply so is.applies })
answers_for honest other line old new reply so (inr refused) = inr refused

-- before the first line
pub come_first : (honest : Type 0) (store : StoreView) (remaining contents : Option (List ℕ))
    → HasCome honest store store (streams remaining contents) (streams remaining contents)
come_first honest store remaining contents = record {
  lines = [];
  replies = [];
  serves = none_read;
  written = Appends-nil contents;
  read = λ script is. record { left = script; split = refl; remains = is };
}

-- what the reader said of the bytes that were left
told : (P : List ℕ → Type 0) (remaining : Option (List ℕ)) (left : List ℕ) → remaining ≡ Some left → IfSome remaining P → P left
told P remaining left is some = subst (λ (r : Option (List ℕ)). IfSome r P) is some

-- the lines that were read, and one more
read_more : (script : List ℕ) (lines : List (List ℕ)) {remaining remaining' : Option (List ℕ)} {kept : List ℕ} (read : LineRead remaining remaining' kept)
    → AreReadOf script lines remaining
    → AreReadOf script (lines ++ read.line ∷ []) remaining'
read_more script lines read was =
    let next = read.read was.left was.remains in record {
      left = next.0;
      split = was.split ∙ ap (λ (l : List (List ℕ)). lines ++ l) next.1 ∙ sym (append_assoc lines (read.line ∷ []) (lines_of next.0));
      remains = next.2;
    }

-- one line more was answered
pub come_more : (honest other : Type 0) (old mid new : StoreView) (start : Streams) (remaining remaining' contents contents' : Option (List ℕ)) (kept : List ℕ)
    → (other → honest) → HasCome other old mid start (streams remaining contents) → LineRead remaining remaining' kept
    → LineIsDone honest kept mid new contents contents'
    → HasCome other old new start (streams remaining' contents')
come_more honest other old mid new start remaining remaining' contents contents' kept so came read is = record {
  lines = came.lines ++ read.line ∷ [];
  replies = came.replies ++ is.reply ∷ [];
  serves = serves_more came.serves read.line is.reply
      (answers_for honest other read.line mid new is.reply so (answered_whole honest read mid new is.reply is.answers)) is.goes;
  written = subst (Appends start.contents contents') (sym (texts_more came.replies is.reply))
      (Appends-trans start.contents contents contents' (texts_of came.replies) (reply_text is.reply) came.written is.written);
  read = λ script starts. read_more script came.lines read (came.read script starts);
}

-- nothing more was answered, and the lines that were read are read so
come_then : (honest : Type 0) (old new : StoreView) (start : Streams) (remaining remaining' contents : Option (List ℕ))
    (AreRead : (script : List ℕ) (lines : List (List ℕ)) (remaining : Option (List ℕ)) → Type 0)
    → HasCome honest old new start (streams remaining contents)
    → ((script : List ℕ) (lines : List (List ℕ)) → AreReadOf script lines remaining → AreRead script lines remaining')
    → HasAnswered honest old new start (streams remaining' contents) AreRead
come_then honest old new start remaining remaining' contents AreRead came read = record {
  lines = came.lines;
  replies = came.replies;
  serves = came.serves;
  written = came.written;
  read = λ script starts. read script came.lines (came.read script starts);
}

-- no line is left
pub come_last : (honest : Type 0) (old new : StoreView) (start : Streams) (remaining remaining' contents : Option (List ℕ))
    → HasCome honest old new start (streams remaining contents) → IfSome remaining (λ script. HasNoLine script remaining')
    → HasRun honest old new start (streams remaining' contents)
come_last honest old new start remaining remaining' contents came none = come_then honest old new start remaining remaining' contents AreAllOf came
    (λ script lines was.
    let end = told (λ (left : List ℕ). HasNoLine left remaining') remaining was.left was.remains none in
    record { all = was.split ∙ ap (λ (l : List ℕ). lines ++ lines_of l) end.none ∙ append-nil lines; remains = end.left })

-- the reader failed
pub come_unread : (honest : Type 0) (old new : StoreView) (start : Streams) (remaining remaining' contents : Option (List ℕ))
    → HasCome honest old new start (streams remaining contents) → IfSome remaining (λ script. StopsInLine script remaining')
    → StoppedReading honest old new start (streams remaining' contents)
come_unread honest old new start remaining remaining' contents came stops = come_then honest old new start remaining remaining' contents AreReadWhole came
    (λ script lines was. record {
      left = was.left;
      split = was.split;
      stopped = told (λ (left : List ℕ). StopsInLine left remaining') remaining was.left was.remains stops;
    })

-- the reader gave too many lines
pub come_too_far : (honest : Type 0) (old new : StoreView) (start : Streams) (remaining contents : Option (List ℕ))
    → HasCome honest old new start (streams remaining contents) → StoppedReading honest old new start (streams remaining contents)
come_too_far honest old new start remaining contents came = come_then honest old new start remaining remaining contents AreReadWhole came
    (λ script lines was. record {
      left = was.left;
      split = was.split;
      stopped = record { read = []; rest = was.left; split = refl; unbroken = λ k d within. absurd (omega (arith, within)); left = was.remains };
    })

-- the writer failed
pub come_cut : (honest other : Type 0) (old mid new : StoreView) (start : Streams) (remaining remaining' contents contents' : Option (List ℕ)) (kept : List ℕ)
    → (other → honest) → HasCome other old mid start (streams remaining contents) → LineRead remaining remaining' kept
    → LineIsCut honest kept mid new contents contents'
    → StoppedWriting other old new start (streams remaining' contents')
come_cut honest other old mid new start remaining remaining' contents contents' kept so came read is = record {
  lines = came.lines;
  replies = came.replies;
  mid = mid;
  serves = came.serves;
  line = read.line;
  reply = is.reply;
  answers = answers_for honest other read.line mid new is.reply so (answered_whole honest read mid new is.reply is.answers);
  part = is.part;
  is_part = is.is_part;
  written = Appends-trans start.contents contents contents' (texts_of came.replies) is.part came.written is.written;
  read = λ script starts. read_more script came.lines read (came.read script starts);
}

-- the store ended
pub come_ended : (honest other : Type 0) (refusal : Refusal) (old mid new : StoreView) (start : Streams)
    (remaining remaining' contents contents' : Option (List ℕ)) (kept : List ℕ)
    → (other → honest) → HasCome other old mid start (streams remaining contents) → LineRead remaining remaining' kept
    → LineIsLast honest kept mid new refusal contents contents'
    → StoppedByStore other refusal old new start (streams remaining' contents')
come_ended honest other refusal old mid new start remaining remaining' contents contents' kept so came read is = record {
  lines = came.lines;
  replies = came.replies;
  mid = mid;
  serves = came.serves;
  line = read.line;
  answers = answers_for honest other read.line mid new (Refused refusal) so (answered_whole honest read mid new (Refused refusal) is.answers);
  written = Appends-trans start.contents contents contents' (texts_of came.replies) (refusal_line refusal) came.written is.written;
  read = λ script starts. read_more script came.lines read (came.read script starts);
}

-- what a reader's answer says

abbrev pub a_line : Result Bool Refusal → Type 0
a_line result = result ≡ Ok true

abbrev pub no_line : Result Bool Refusal → Type 0
no_line result = result ≡ Ok false

pub gives_line : (remaining remaining' : Option (List ℕ)) (kept : List ℕ) (b : Bool) → b ≡ true
    → (a_line (Ok b) → IfSome remaining (λ script. GivesLine script remaining' kept)) → LineRead remaining remaining' kept
gives_line remaining remaining' kept b was given = line_read remaining remaining' kept (given (ap (λ (x : Bool). Ok x) was))

pub has_no_line : (remaining remaining' : Option (List ℕ)) (b : Bool) → b ≡ false
    → (no_line (Ok b) → IfSome remaining (λ script. HasNoLine script remaining')) → IfSome remaining (λ script. HasNoLine script remaining')
has_no_line remaining remaining' b was given = given (ap (λ (x : Bool). Ok x) was)

pub script_refusal : (refusal : Refusal) → (refusal ≡ WriteFault) ⊎ EndsIt refusal → IsScriptRefusal refusal
script_refusal refusal (inl fault) = inr (inr (inl fault))
script_refusal refusal (inr ends) = inr (inr (inr ends))

-- the refusal that an answer is
pub same_refusal : {T : Type 0} (result : Result T Refusal) (y field refusal : Refusal) → result ≡ Err y → y ≡ field → result ≡ Err refusal → field ≡ refusal
same_refusal (Ok x) y field refusal is same other = cc
same_refusal (Err z) y field refusal is same other = cc

pub reading_not_writing : ReadFault ≡ WriteFault → ⊥
reading_not_writing is = let never : ReadFault ≡ WriteFault = is in cc

pub reading_not_memory : ReadFault ≡ Memory → ⊥
reading_not_memory is = let never : ReadFault ≡ Memory = is in cc

pub memory_not_writing : Memory ≡ WriteFault → ⊥
memory_not_writing is = let never : Memory ≡ WriteFault = is in cc

-- a line that is not done is refused with nothing else
pub not_memory : (refusal : Refusal) → (refusal ≡ WriteFault) ⊎ EndsIt refusal → refusal ≡ Memory → ⊥
not_memory refusal (inl fault) is = let never : WriteFault ≡ Memory = sym fault ∙ is in cc
not_memory refusal (inr ends) is = subst EndsIt is ends

pub not_reading : (refusal : Refusal) → (refusal ≡ WriteFault) ⊎ EndsIt refusal → refusal ≡ ReadFault → ⊥
not_reading refusal (inl fault) is = let never : WriteFault ≡ ReadFault = sym fault ∙ is in cc
not_reading refusal (inr ends) is = subst EndsIt is ends
