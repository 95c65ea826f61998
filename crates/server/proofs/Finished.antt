-- Serving ends: by what was read last, and what is written last.
use Rattle.std.proofs.Common.{◌≡◌, ◌≢◌, ◌⊎◌, inl, inr, ℕ, List, [], ◌∷◌, ◌++◌, append_assoc, append-nil, refl, sym, ◌∙◌, ap, subst, Option, Some, None, Result, Ok, Err}
use Rattle.std.specs.Prelude.{IfErr, IfSome, OnOk}
use Rattle.std.proofs.lemmas.Option.{none-some}
use Rattle.std.proofs.KnownBytes.{Appends-nil, Appends-trans, Consumes-nil}
use Rattle.std.specs.Io.KnownBytes.{Appends}
use Rattle.sector_model.specs.declared.refusal.Refusal.{Refusal}
use Rattle.sector_model.specs.declared.refusal.Refusal.TheVariants.{BadCount, BadLine, ReadFault, TwoLost, Worn, WriteFault}
use Rattle.report.specs.Lines.{HasNoLine}
use Rattle.report.specs.Replies.{refusal_line}
use Rattle.report.specs.Written.{AppendsPart}
use Rattle.scrub.specs.Scrubbing.{Report}
use Rattle.set_commands.specs.Run.{Streams, streams}
use Rattle.volume_table.specs.Stands.{StoreView}
use Rattle.server.proofs.Coming.{ready_read}
use Rattle.server.proofs.Reading.{reads_all, reads_nothing}
use Rattle.server.specs.Ends.{AllServed, AsksReplace, HasServed, IsBadRefusal, MeetsBadRequest, MeetsNoRequest, NoneWaits, ServesLine, ServesLines}
use Rattle.server.specs.Ends.{StoppedReading, StoppedWriting, StopsReady, TellsBadRequest, refusing}
use Rattle.server.specs.Scrubs.{none_scrubbed}
use Rattle.server.specs.Serving.{Serves, nothing_served}
use Rattle.server.specs.declared.ending.Ending.{Ending}
use Rattle.server.specs.declared.ending.Ending.TheVariants.{Input, Replace}

-- no line was left
pub all_served : (honest : Type 0) (start store : StoreView) (was : Streams) (remaining remaining' contents : Option (List ℕ)) (so_far : Report)
    → IfSome remaining (λ script. HasNoLine script remaining') → NoneWaits honest start was [] 0 [] store (streams remaining contents) so_far
    → AllServed honest start store was (streams remaining' contents)
all_served honest start store was remaining remaining' contents so_far none ready = record {
  so_far = so_far;
  come = ready_read honest start was 0 [] [] store remaining remaining' contents so_far (reads_nothing remaining remaining' none) ready;
  read = reads_all was.remaining remaining remaining' _ ready.read none;
}

-- a line ended it
pub line_ends : (honest : Type 0) (start store : StoreView) (was is : Streams) (so_far : Report) (ending : Ending)
    → ServesLine honest start was (Ok (Some ending)) store is so_far → ServesLines honest start was (Ok ending) store is
line_ends honest start store was is so_far Input serves = absurd serves
line_ends honest start store was is so_far (Replace slot) serves = serves

abbrev ended_ok : Ending → Result Ending Refusal
ended_ok ending = Ok ending

abbrev ended_err : Refusal → Result Ending Refusal
ended_err refusal = Err refusal

differ : (ending : Ending) (refusal : Refusal) → ended_ok ending ≡ Err refusal → ⊥
differ ending refusal is = cc

module _ (honest : Type 0) (start store : StoreView) (was : Streams) (remaining contents contents' : Option (List ℕ)) where
  -- the input ended, or the reader failed
  read_last : MeetsNoRequest (λ left ahead. (so_far : Report) × NoneWaits honest start was [] left ahead store (streams remaining contents) so_far)
      → StoppedReading honest start store was (streams remaining contents)
  read_last meets =
      let ready = meets.come.1 in
      record {
        lines = ready.lines;
        text = ready.text;
        left = meets.left;
        ahead = meets.ahead;
        last = [];
        so_far = meets.come.0;
        serves = ready.serves;
        is_last = inl refl;
        written = subst (Appends was.contents contents) (sym (append-nil ready.text)) ready.written;
        read = ready.read;
      }

  abbrev Bad : Refusal → Type 0
  Bad refusal = MeetsBadRequest (λ left ahead. (so_far : Report) × NoneWaits honest start was [] left ahead store (streams remaining contents) so_far) refusal

  -- a line ended it, and its refusal was written
  bad_last : (refusal : Refusal) → Bad refusal → Appends contents contents' (refusal_line refusal)
      → StoppedReading honest start store was (streams remaining contents')
  bad_last refusal meets written =
      let ready = meets.come.1 in
      record {
        lines = ready.lines;
        text = ready.text;
        left = meets.left;
        ahead = meets.line ++ 10 ∷ [];
        last = refusal_line refusal;
        so_far = meets.come.0;
        serves = ready.serves;
        is_last = inr (refusal, meets.line, meets.bad, refl, refl);
        written = Appends-trans was.contents contents contents' ready.text (refusal_line refusal) ready.written written;
        read = ready.read;
      }

  bad_cut : (refusal : Refusal) → Bad refusal → AppendsPart contents contents' (refusal_line refusal)
      → StoppedWriting honest start was store (streams remaining contents')
  bad_cut refusal meets cut =
      let ready = meets.come.1 in
      record {
        lines = ready.lines;
        text = ready.text ++ refusal_line refusal;
        ahead = meets.line ++ 10 ∷ [];
        part = ready.text ++ cut.part;
        whole = refusing refusal meets.line ready.serves meets.bad;
        is_part = record {
          rest = cut.is_part.rest;
          joined = append_assoc ready.text cut.part cut.is_part.rest ∙ ap (λ (l : List ℕ). ready.text ++ l) cut.is_part.joined;
          some = cut.is_part.some;
        };
        written = Appends-trans was.contents contents contents' ready.text cut.part ready.written cut.written;
        read = ready.read;
      }

  bad_told : (refusal : Refusal) (told : Result Ending Refusal) → Bad refusal → TellsBadRequest contents contents' refusal told
      → HasServed honest start store was (streams remaining contents') told
  bad_told refusal (Ok ending) meets tells = absurd (differ ending ReadFault (tells.ok (λ is. differ ending WriteFault is)).0)
  bad_told refusal (Err WriteFault) meets tells = bad_cut refusal meets (tells.part refl)
  bad_told refusal (Err other) meets tells =
      let is = tells.ok (λ same. let never : ended_err other ≡ Err WriteFault = same in cc) in
      subst (HasServed honest start store was (streams remaining contents')) (sym is.0) (bad_last refusal meets is.1)

  -- what was not told anew
  pub told_same : {W : Type 0} (tell : W → Option (List ℕ)) (old new : W) (ended told : Result Ending Refusal) → (told ≡ ended) × (new ≡ old)
      → tell old ≡ contents → HasServed honest start store was (streams remaining contents) ended
      → HasServed honest start store was (streams remaining (tell new)) told
  told_same tell old new ended told same at served =
      subst (HasServed honest start store was (streams remaining (tell new))) (sym same.0)
      (subst (λ (c : Option (List ℕ)). HasServed honest start store was (streams remaining c) ended) (sym (ap tell same.1 ∙ at)) served)

  lines_end : (refusal : Refusal) → ¬ IsBadRefusal refusal → StopsReady honest start was store (streams remaining contents) refusal
      → HasServed honest start store was (streams remaining contents) (Err refusal)
  lines_end TwoLost not stops = stops
  lines_end Worn not stops = stops
  lines_end WriteFault not stops = stops
  lines_end ReadFault not stops = read_last stops
  lines_end BadLine not stops = absurd (not (inl refl))
  lines_end BadCount not stops = absurd (not (inr refl))
  lines_end refusal not stops = absurd stops

  lines_bad : (refusal : Refusal) → IsBadRefusal refusal → StopsReady honest start was store (streams remaining contents) refusal → Bad refusal
  lines_bad refusal (inl is) stops = subst Bad (sym is) (subst (StopsReady honest start was store (streams remaining contents)) is stops)
  lines_bad refusal (inr is) stops = subst Bad (sym is) (subst (StopsReady honest start was store (streams remaining contents)) is stops)

  pub bad_or_not : (refusal : Refusal) → IsBadRefusal refusal ⊎ ¬ IsBadRefusal refusal
  bad_or_not BadLine = inl (inl refl)
  bad_or_not BadCount = inl (inr refl)
  bad_or_not refusal = inr (λ is. elim is [
    | inl line ↦ let never : refusal ≡ BadLine = line in cc
    | inr count ↦ let never : refusal ≡ BadCount = count in cc
  ])

  -- how it ended, and what was told then
  pub finished : {W : Type 0} (tell : W → Option (List ℕ)) (old new : W) (ended told : Result Ending Refusal) → tell old ≡ contents → tell new ≡ contents'
      → ((refusal : Refusal) → ended ≡ Err refusal → IsBadRefusal refusal → TellsBadRequest (tell old) (tell new) refusal told)
      → IfErr ended (λ refusal. ¬ IsBadRefusal refusal → (told ≡ ended) × (new ≡ old)) → OnOk ended ((told ≡ ended) × (new ≡ old))
      → ServesLines honest start was ended store (streams remaining contents) → HasServed honest start store was (streams remaining (tell new)) told
  finished tell old new (Ok Input) told at_old at_new bad same ok serves = told_same tell old new (Ok Input) told ok at_old serves
  finished tell old new (Ok (Replace slot)) told at_old at_new bad same ok serves = told_same tell old new (Ok (Replace slot)) told ok at_old serves
  finished tell old new (Err refusal) told at_old at_new bad same ok serves = elim (bad_or_not refusal) [
    | inl is ↦ subst (λ (c : Option (List ℕ)). HasServed honest start store was (streams remaining c) told) (sym at_new)
        (bad_told refusal told (lines_bad refusal is serves)
        (subst (λ (c : Option (List ℕ)). TellsBadRequest c contents' refusal told) at_old
        (subst (λ (c : Option (List ℕ)). TellsBadRequest (tell old) c refusal told) at_new (bad refusal refl is))))
    | inr not ↦ told_same tell old new (Err refusal) told (same not) at_old (lines_end refusal not serves)
  ]

-- a line was served, and serving goes on; or it ended it
pub line_goes : (honest : Type 0) (start store : StoreView) (was is : Streams) (so_far : Report) (ending : Option Ending) → ending ≡ None
    → ServesLine honest start was (Ok ending) store is so_far → NoneWaits honest start was [] 0 [] store is so_far
line_goes honest start store was is so_far None none serves = serves
line_goes honest start store was is so_far (Some ending) none serves = absurd (none-some ending (sym none))

pub line_ended : (honest : Type 0) (start store : StoreView) (was is : Streams) (so_far : Report) (ending : Option Ending) (said : Ending) → ending ≡ Some said
    → ServesLine honest start was (Ok ending) store is so_far → ServesLines honest start was (Ok said) store is
line_ended honest start store was is so_far ending said same serves =
    line_ends honest start store was is so_far said (subst (λ (o : Option Ending). ServesLine honest start was (Ok o) store is so_far) same serves)

-- before the first line
pub begun : (honest : Type 0) (store : StoreView) (is : Streams) (so_far : Report) → so_far ≡ none_scrubbed → NoneWaits honest store is [] 0 [] store is so_far
begun honest store is so_far none = record {
  lines = [];
  text = [];
  serves = subst (λ (s : Report). Serves honest [] [] [] [] [] 0 s store store) (sym none) nothing_served;
  written = Appends-nil is.contents;
  read = Consumes-nil is.remaining;
}
