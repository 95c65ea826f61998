-- What the fields of a line tell of what it demands.
use Rattle.std.proofs.Common.{◌≡◌, ℕ, ◌+◌, ◌*◌, ◌==◌, if◌then◌else◌, List, [], ◌∷◌, get_or, append-nil, Option, Some, None, refl, sym, ap, subst, ◌∙◌}
use Rattle.std.specs.Prelude.{IfSome, codes}
use Rattle.std.proofs.lemmas.List.Elements.{All-cons, All-nil}
use Rattle.volume_table.specs.VolumeStep.{Command, Create, Extend, Names, Read, Remove, Rename, Upgrade, Write}
use Rattle.report.specs.Fields.{AreReadFields, IsOneNumber, fields_of}
use Rattle.report.proofs.CommandLemmas.{HasFields-from_Says, Says-from_fields, no_space-number, same_number, second_is_field, with_fields}
use Rattle.report.proofs.FieldLemmas.{HasNoSpace, line-fields}
use Rattle.requests.specs.Arguments.{AreArguments, AreVolumes, HasNoArguments, IsCount, IsPlace, IsSize, IsVolume}
use Rattle.requests.specs.Demands.{Demand, Demands, DemandsNothing, DemandsOneThing, FailSlot, IsCounted, IsStretch, OnVolumes, ReadBlocks, RebuildSteps, ReplaceSlot}
use Rattle.requests.specs.Demands.{ScrubRows, Status, Together, WriteBlocks, ZeroBlocks, demand_of}
use Rattle.requests.specs.Words.{SpellsNoWord, text_of}
use Rattle.requests.specs.declared.parse.Request.{Request}
use Rattle.requests.specs.declared.words.Word.{Word}
use Rattle.requests.specs.declared.words.Word.TheVariants as kind
use Rattle.requests.specs.declared.words.BlocksWord.TheVariants as blocks
use Rattle.requests.specs.declared.words.VolumesWord.TheVariants as volumes
use Rattle.requests.specs.declared.words.SetWord.TheVariants as set

-- the first and the third letter of a word, which tell it from the others
abbrev letters_of : List ℕ → ℕ
letters_of keyword = 256 * get_or keyword 0 0 + get_or keyword 2 0

-- the word with these letters
abbrev word_with : ℕ → Word
word_with n =
    if n == 29281 then kind.OnBlocks blocks.Read else
    if n == 30569 then kind.OnBlocks blocks.Write else
    if n == 31346 then kind.OnBlocks blocks.Zero else
    if n == 29799 then kind.OnBlocks blocks.Together else
    if n == 27763 then kind.OnVolumes volumes.List else
    if n == 25445 then kind.OnVolumes volumes.Create else
    if n == 25972 then kind.OnVolumes volumes.Extend else
    if n == 29293 then kind.OnVolumes volumes.Remove else
    if n == 29294 then kind.OnVolumes volumes.Rename else
    if n == 29537 then kind.OnSet set.Status else
    if n == 26217 then kind.OnSet set.Fail else
    if n == 29296 then kind.OnSet set.Replace else
    if n == 29282 then kind.OnSet set.Rebuild else
    kind.OnSet set.Scrub

word_back : (word : Word) → word_with (letters_of (text_of word)) ≡ word
word_back (kind.OnBlocks blocks.Read) = refl
word_back (kind.OnBlocks blocks.Write) = refl
word_back (kind.OnBlocks blocks.Zero) = refl
word_back (kind.OnBlocks blocks.Together) = refl
word_back (kind.OnVolumes volumes.List) = refl
word_back (kind.OnVolumes volumes.Create) = refl
word_back (kind.OnVolumes volumes.Extend) = refl
word_back (kind.OnVolumes volumes.Remove) = refl
word_back (kind.OnVolumes volumes.Rename) = refl
word_back (kind.OnSet set.Status) = refl
word_back (kind.OnSet set.Fail) = refl
word_back (kind.OnSet set.Replace) = refl
word_back (kind.OnSet set.Rebuild) = refl
word_back (kind.OnSet set.Scrub) = refl

-- words with the same bytes are the same
same_word : (word other : Word) → text_of word ≡ text_of other → word ≡ other
same_word word other same = sym (word_back word) ∙ ap (λ text. word_with (letters_of text)) same ∙ word_back other

-- a line begins with a word, and the fields after it demand this
record HasArguments (line : List ℕ) (demand : Demand) : Type 0 where
  word : Word
  after : List (List ℕ)
  split : fields_of line ≡ text_of word ∷ after
  are : AreArguments word after demand

-- the fields of a line of a word and a number
counted_fields : (keyword line : List ℕ) (n : ℕ) → fields_of keyword ≡ keyword ∷ [] → (h : IsCounted keyword line n)
    → (fields_of line ≡ keyword ∷ h.number_field ∷ []) × IsOneNumber (h.number_field ∷ []) n
counted_fields keyword line n alone h = (
  with_fields keyword line (h.number_field ∷ []) alone (All-cons HasNoSpace h.number_field [] (no_space-number h.number_field n h.is_number) (All-nil HasNoSpace))
      h.spelled,
  record { number_field = h.number_field; spelled = refl; is_number = h.is_number },
)

-- the fields of a line of a word, a name and two numbers
stretch_fields : (keyword line name : List ℕ) (at count : ℕ) → fields_of keyword ≡ keyword ∷ [] → (h : IsStretch keyword line name at count)
    → (fields_of line ≡ keyword ∷ name ∷ h.at_field ∷ h.count_field ∷ []) × AreReadFields (name ∷ h.at_field ∷ h.count_field ∷ []) name at count
stretch_fields keyword line name at count alone h = (
  with_fields keyword line (name ∷ h.at_field ∷ h.count_field ∷ []) alone
      (All-cons HasNoSpace name (h.at_field ∷ h.count_field ∷ []) h.is_name.no_space
      (All-cons HasNoSpace h.at_field (h.count_field ∷ []) (no_space-number h.at_field at h.is_at)
      (All-cons HasNoSpace h.count_field [] (no_space-number h.count_field count h.is_count) (All-nil HasNoSpace))))
      h.spelled,
  record {
    count_field = h.count_field;
    place = record { number_field = h.at_field; spelled = refl; is_name = h.is_name.some; is_number = h.is_at };
    is_count = h.is_count;
  },
)

-- a line of a word and a number has these fields
counted_has : (word : Word) (demand : ℕ → Demand) (line : List ℕ) (n : ℕ) → fields_of (text_of word) ≡ text_of word ∷ []
    → ((fields : List (List ℕ)) → IsCount demand fields (demand n) → AreArguments word fields (demand n))
    → IsCounted (text_of word) line n → HasArguments line (demand n)
counted_has word demand line n alone are h =
    let fields = counted_fields (text_of word) line n alone h in
    record { word = word; after = h.number_field ∷ []; split = fields.0; are = are (h.number_field ∷ []) (n, fields.1, refl) }

-- and one of a word, a name and two numbers has these
stretch_has : (word : Word) (demand : List ℕ → ℕ → ℕ → Demand) (line name : List ℕ) (at count : ℕ) → fields_of (text_of word) ≡ text_of word ∷ []
    → ((fields : List (List ℕ)) → IsPlace demand fields (demand name at count) → AreArguments word fields (demand name at count))
    → IsStretch (text_of word) line name at count → HasArguments line (demand name at count)
stretch_has word demand line name at count alone are h =
    let fields = stretch_fields (text_of word) line name at count alone h in
    record {
      word = word;
      after = name ∷ h.at_field ∷ h.count_field ∷ [];
      split = fields.0;
      are = are (name ∷ h.at_field ∷ h.count_field ∷ []) (name, at, count, fields.1, refl);
    }

-- a line has the word and the fields of what it demands
has_arguments : (line : List ℕ) (demand : Demand) → Demands line demand → HasArguments line demand
has_arguments line (ReadBlocks name at count) h = stretch_has (kind.OnBlocks blocks.Read) ReadBlocks line name at count refl (λ fields are. are) h
has_arguments line (WriteBlocks name at count) h = stretch_has (kind.OnBlocks blocks.Write) WriteBlocks line name at count refl (λ fields are. are) h
has_arguments line (ZeroBlocks name at count) h = stretch_has (kind.OnBlocks blocks.Zero) ZeroBlocks line name at count refl (λ fields are. are) h
has_arguments line (Together lines) h = counted_has (kind.OnBlocks blocks.Together) Together line lines refl (λ fields are. are) h
has_arguments line (FailSlot slot) h = counted_has (kind.OnSet set.Fail) FailSlot line slot refl (λ fields are. are) h
has_arguments line (ReplaceSlot slot) h = counted_has (kind.OnSet set.Replace) ReplaceSlot line slot refl (λ fields are. are) h
has_arguments line (RebuildSteps steps) h = counted_has (kind.OnSet set.Rebuild) RebuildSteps line steps refl (λ fields are. are) h
has_arguments line (ScrubRows rows) h = counted_has (kind.OnSet set.Scrub) ScrubRows line rows refl (λ fields are. are) h
has_arguments line Status h = record { word = kind.OnSet set.Status; after = []; split = ap fields_of h; are = (refl, refl) }
has_arguments line (OnVolumes Names) h = record { word = kind.OnVolumes volumes.List; after = []; split = ap fields_of h.1; are = (refl, refl) }
has_arguments line (OnVolumes (Create name count)) h =
    let f = HasFields-from_Says line (Create name count) h.1 in
    record { word = kind.OnVolumes volumes.Create; after = f.after; split = f.split; are = (name, count, f.are, refl) }
has_arguments line (OnVolumes (Extend name count)) h =
    let f = HasFields-from_Says line (Extend name count) h.1 in
    record { word = kind.OnVolumes volumes.Extend; after = f.after; split = f.split; are = (name, count, f.are, refl) }
has_arguments line (OnVolumes (Remove name)) h =
    let f = HasFields-from_Says line (Remove name) h.1 in
    record { word = kind.OnVolumes volumes.Remove; after = f.after; split = f.split; are = (name, f.are, refl) }
has_arguments line (OnVolumes (Rename old new)) h =
    let f = HasFields-from_Says line (Rename old new) h.1 in
    record { word = kind.OnVolumes volumes.Rename; after = f.after; split = f.split; are = (old, new, f.are, refl) }
has_arguments line (OnVolumes (Read name at count)) h = absurd h.0
has_arguments line (OnVolumes (Write name at blocks)) h = absurd h.0
has_arguments line (OnVolumes Upgrade) h = absurd h.1

-- a line of a word and a number
counted_line : (keyword line : List ℕ) (n : ℕ) (after : List (List ℕ)) → fields_of line ≡ keyword ∷ after → IsOneNumber after n → IsCounted keyword line n
counted_line keyword line n after is h =
    let split : fields_of line ≡ keyword ∷ h.number_field ∷ [] = rw h.spelled at is in
    record { number_field = h.number_field; is_number = h.is_number; spelled = line-fields line keyword (h.number_field ∷ []) split }

-- a line of a word, a name and two numbers
stretch_line : (keyword line name : List ℕ) (at count : ℕ) (after : List (List ℕ)) → fields_of line ≡ keyword ∷ after → AreReadFields after name at count
    → IsStretch keyword line name at count
stretch_line keyword line name at count after is h =
    let place = h.place in
    let split : fields_of line ≡ keyword ∷ name ∷ place.number_field ∷ h.count_field ∷ [] = rw place.spelled at is in
    record {
      at_field = place.number_field;
      count_field = h.count_field;
      is_name = second_is_field line keyword name (place.number_field ∷ h.count_field ∷ []) split place.is_name;
      is_at = place.is_number;
      is_count = h.is_count;
      spelled = line-fields line keyword (name ∷ place.number_field ∷ h.count_field ∷ []) split;
    }

-- a line that is a word alone
alone_line : (keyword line : List ℕ) (after : List (List ℕ)) → fields_of line ≡ keyword ∷ after → after ≡ [] → line ≡ keyword
alone_line keyword line after is none =
    let alone : fields_of line ≡ keyword ∷ [] = rw none at is in
    line-fields line keyword [] alone ∙ append-nil keyword

-- a line demands what its word and fields do
demands_by : (line : List ℕ) (word : Word) (after : List (List ℕ)) (demand : Demand) → fields_of line ≡ text_of word ∷ after → AreArguments word after demand
    → Demands line demand
demands_by line (kind.OnBlocks blocks.Read) after demand split are =
    subst (Demands line) (sym are.4) (stretch_line (codes "read") line are.0 are.1 are.2 after split are.3)
demands_by line (kind.OnBlocks blocks.Write) after demand split are =
    subst (Demands line) (sym are.4) (stretch_line (codes "write") line are.0 are.1 are.2 after split are.3)
demands_by line (kind.OnBlocks blocks.Zero) after demand split are =
    subst (Demands line) (sym are.4) (stretch_line (codes "zero") line are.0 are.1 are.2 after split are.3)
demands_by line (kind.OnBlocks blocks.Together) after demand split are =
    subst (Demands line) (sym are.2) (counted_line (codes "together") line are.0 after split are.1)
demands_by line (kind.OnSet set.Fail) after demand split are =
    subst (Demands line) (sym are.2) (counted_line (codes "fail") line are.0 after split are.1)
demands_by line (kind.OnSet set.Replace) after demand split are =
    subst (Demands line) (sym are.2) (counted_line (codes "replace") line are.0 after split are.1)
demands_by line (kind.OnSet set.Rebuild) after demand split are =
    subst (Demands line) (sym are.2) (counted_line (codes "rebuild") line are.0 after split are.1)
demands_by line (kind.OnSet set.Scrub) after demand split are =
    subst (Demands line) (sym are.2) (counted_line (codes "scrub") line are.0 after split are.1)
demands_by line (kind.OnSet set.Status) after demand split are = subst (Demands line) (sym are.1) (alone_line (codes "status") line after split are.0)
demands_by line (kind.OnVolumes volumes.List) after demand split are = subst (Demands line) (sym are.1) (tt, alone_line (codes "list") line after split are.0)
demands_by line (kind.OnVolumes volumes.Create) after demand split are =
    subst (Demands line) (sym are.3) (tt, Says-from_fields line (Create are.0 are.1) (record { after = after; split = split; are = are.2 }))
demands_by line (kind.OnVolumes volumes.Extend) after demand split are =
    subst (Demands line) (sym are.3) (tt, Says-from_fields line (Extend are.0 are.1) (record { after = after; split = split; are = are.2 }))
demands_by line (kind.OnVolumes volumes.Remove) after demand split are =
    subst (Demands line) (sym are.2) (tt, Says-from_fields line (Remove are.0) (record { after = after; split = split; are = are.1 }))
demands_by line (kind.OnVolumes volumes.Rename) after demand split are =
    subst (Demands line) (sym are.3) (tt, Says-from_fields line (Rename are.0 are.1) (record { after = after; split = split; are = are.2 }))

-- the same fields are one number, one place, and so on
one_count : (demand : ℕ → Demand) (fields : List (List ℕ)) (d e : Demand) → IsCount demand fields d → IsCount demand fields e → d ≡ e
one_count demand fields d e hd he =
    let spelled = sym hd.1.spelled ∙ he.1.spelled in
    let value = hd.1.is_number.value in
    let other = he.1.is_number.value in
    let same : hd.0 ≡ he.0 = cc in
    hd.2 ∙ ap demand same ∙ sym he.2

one_place : (demand : List ℕ → ℕ → ℕ → Demand) (fields : List (List ℕ)) (d e : Demand) → IsPlace demand fields d → IsPlace demand fields e → d ≡ e
one_place demand fields d e hd he =
    let p = hd.3 in
    let q = he.3 in
    let same = same_number fields hd.0 he.0 hd.1 he.1 (p.count_field ∷ []) (q.count_field ∷ []) p.place q.place in
    let field_is = same.2 in
    let value = p.is_count.value in
    let other = q.is_count.value in
    let count_is : hd.2 ≡ he.2 = cc in
    hd.4 ∙ ap (λ name. demand name hd.1 hd.2) same.0 ∙ ap (λ at. demand he.0 at hd.2) same.1 ∙ ap (demand he.0 he.1) count_is ∙ sym he.4

one_size : (command : List ℕ → ℕ → Command) (fields : List (List ℕ)) (d e : Demand) → IsSize command fields d → IsSize command fields e → d ≡ e
one_size command fields d e hd he =
    let same = same_number fields hd.0 he.0 hd.1 he.1 [] [] hd.2 he.2 in
    hd.3 ∙ ap (λ name. OnVolumes (command name hd.1)) same.0 ∙ ap (λ count. OnVolumes (command he.0 count)) same.1 ∙ sym he.3

one_volume : (command : List ℕ → Command) (fields : List (List ℕ)) (d e : Demand) → IsVolume command fields d → IsVolume command fields e → d ≡ e
one_volume command fields d e hd he =
    let spelled = sym hd.1.spelled ∙ he.1.spelled in
    let same : hd.0 ≡ he.0 = cc in
    hd.2 ∙ ap (λ name. OnVolumes (command name)) same ∙ sym he.2

two_volumes : (command : List ℕ → List ℕ → Command) (fields : List (List ℕ)) (d e : Demand) → AreVolumes command fields d → AreVolumes command fields e → d ≡ e
two_volumes command fields d e hd he =
    let spelled = sym hd.2.place.spelled ∙ he.2.place.spelled in
    let old_is : hd.0 ≡ he.0 = cc in
    let new_is : hd.1 ≡ he.1 = cc in
    hd.3 ∙ ap (λ name. OnVolumes (command name hd.1)) old_is ∙ ap (λ name. OnVolumes (command he.0 name)) new_is ∙ sym he.3

-- the same fields after the same word demand one thing
one_demand : (word : Word) (fields : List (List ℕ)) (d e : Demand) → AreArguments word fields d → AreArguments word fields e → d ≡ e
one_demand (kind.OnBlocks blocks.Read) fields d e hd he = one_place ReadBlocks fields d e hd he
one_demand (kind.OnBlocks blocks.Write) fields d e hd he = one_place WriteBlocks fields d e hd he
one_demand (kind.OnBlocks blocks.Zero) fields d e hd he = one_place ZeroBlocks fields d e hd he
one_demand (kind.OnBlocks blocks.Together) fields d e hd he = one_count Together fields d e hd he
one_demand (kind.OnVolumes volumes.List) fields d e hd he = hd.1 ∙ sym he.1
one_demand (kind.OnVolumes volumes.Create) fields d e hd he = one_size Create fields d e hd he
one_demand (kind.OnVolumes volumes.Extend) fields d e hd he = one_size Extend fields d e hd he
one_demand (kind.OnVolumes volumes.Remove) fields d e hd he = one_volume Remove fields d e hd he
one_demand (kind.OnVolumes volumes.Rename) fields d e hd he = two_volumes Rename fields d e hd he
one_demand (kind.OnSet set.Status) fields d e hd he = hd.1 ∙ sym he.1
one_demand (kind.OnSet set.Fail) fields d e hd he = one_count FailSlot fields d e hd he
one_demand (kind.OnSet set.Replace) fields d e hd he = one_count ReplaceSlot fields d e hd he
one_demand (kind.OnSet set.Rebuild) fields d e hd he = one_count RebuildSteps fields d e hd he
one_demand (kind.OnSet set.Scrub) fields d e hd he = one_count ScrubRows fields d e hd he

-- no line demands two things
pub demands_one_thing : DemandsOneThing
demands_one_thing line d e hd he =
    let fd = has_arguments line d hd in
    let fe = has_arguments line e he in
    let same : text_of fd.word ∷ fd.after ≡ text_of fe.word ∷ fe.after = sym fd.split ∙ fe.split in
    let text : text_of fd.word ≡ text_of fe.word = cc in
    let after : fd.after ≡ fe.after = cc in
    let word = same_word fd.word fe.word text in
    one_demand fe.word fe.after d e (subst (λ w. AreArguments w fe.after d) word (subst (λ l. AreArguments fd.word l d) after fd.are)) fe.are

-- a line that begins with a word, and what follows it
module _ (line keyword : List ℕ) (left : List (List ℕ)) (split : fields_of line ≡ keyword ∷ left) where
  -- what is read after a word is what the line demands
  pub request_said : (word : Word) → keyword ≡ text_of word → (result : Option Request)
      → IfSome result (λ request. AreArguments word left (demand_of request))
      → IfSome result (λ request. Demands line (demand_of request))
  request_said word is None h = h
  request_said word is (Some request) h = demands_by line word left (demand_of request) (rw is at split) h

  -- nothing is demanded where nothing is read after a word
  pub request_unsaid : (word : Word) → keyword ≡ text_of word → HasNoArguments word left → DemandsNothing line
  request_unsaid word is none demand h =
      let f = has_arguments line demand h in
      let same : text_of f.word ∷ f.after ≡ keyword ∷ left = sym f.split ∙ split in
      let text : text_of f.word ≡ text_of word = cc in
      let after : f.after ≡ left = cc in
      none demand (subst (λ w. AreArguments w left demand) (same_word f.word word text) (subst (λ l. AreArguments f.word l demand) after f.are))

  -- nothing is demanded by a line whose first word is none of a server's
  pub other_word : SpellsNoWord keyword → DemandsNothing line
  other_word none demand h =
      let f = has_arguments line demand h in
      let same : keyword ∷ left ≡ text_of f.word ∷ f.after = sym split ∙ f.split in
      none f.word cc
