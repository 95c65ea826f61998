-- What the fields of a line tell of the command that it says.
use Rattle.std.proofs.Common.{◌≡◌, ◌≢◌, ℕ, inl, inr, List, [], ◌∷◌, ◌++◌, get_or, true, Option, Some, None, Ok, refl, sym, ap, ◌∙◌, arith}
use Rattle.std.specs.Prelude.{All, IfSome, codes}
use Rattle.std.proofs.lemmas.Bool.{false≢true}
use Rattle.std.specs.Char.{IsAsciiDigit}
use Rattle.std.proofs.lemmas.List.Elements.{All-append, All-cons, All-head, All-nil, All-tail, All-weaker}
use Rattle.hex.specs.Hex.{decode_of, is_hex_digit}
use Rattle.hex.proofs.HexLemmas.{decode_of-ok}
use Rattle.report.specs.Fields.{AreReadFields, AreUnsized, AreWriteFields, BeginsWithName, BeginsWithNames, BeginsWithNumber, fields_of}
use Rattle.volume_table.specs.Volumes.{Block}
use Rattle.volume_table.specs.VolumeStep.{Command, Create, Extend, Names, Read, Remove, Rename, Upgrade, Write}
use Rattle.report.specs.Grammar.{AreBlocks, IsBlock, IsField, IsNumber, IsSized, Says, spaced}
use Rattle.report.specs.Kept.{IsKept, IsSizedEvent, SaysOneCommand}
use Rattle.volume_table.specs.declared.event.Event.{Event}
use Rattle.report.proofs.BlockLemmas.{AreBlocks-one, ending}
use Rattle.report.proofs.FieldLemmas.{HasNoSpace, fields_of-spaced, line-fields, no_space-fields_of}

abbrev NotSpace : ℕ → Type 0
NotSpace byte = byte ≢ 32

-- digits are no spaces
pub no_space-number : (field : List ℕ) (n : ℕ) → IsNumber field n → HasNoSpace field
no_space-number field n h = All-weaker IsAsciiDigit NotSpace (λ digit is space. absurd (omega arith)) field h.digits

space_is_no_digit : (byte : ℕ) → is_hex_digit byte ≡ true → byte ≢ 32
space_is_no_digit byte digit space = false≢true (rw space at digit)

no_space-ending : HasNoSpace ending
no_space-ending = All-head HasNoSpace ending [] (no_space-fields_of ending)

no_space-digits : (field bytes : List ℕ) → decode_of field ≡ Ok bytes → HasNoSpace field
no_space-digits field bytes h =
    let digit : ℕ → Type 0 = λ byte. is_hex_digit byte ≡ true in
    All-weaker digit NotSpace space_is_no_digit field (decode_of-ok field bytes h).1

-- a field that spells a block has no space
no_space-block : (field : List ℕ) (block : Block) → IsBlock field block → HasNoSpace field
no_space-block field block h =
    elim h [
      | inl long ↦ no_space-digits field block long.0
      | inr short ↦
          rw short.spelled (All-append NotSpace short.digits ending (no_space-digits short.digits (short.byte ∷ []) short.decoded) no_space-ending)
    ]

no_space-blocks : (fields : List (List ℕ)) (blocks : List Block) → AreBlocks fields blocks → All HasNoSpace fields
no_space-blocks [] [] h = All-nil HasNoSpace
no_space-blocks [] (block ∷ blocks) h = absurd h
no_space-blocks (field ∷ fields) [] h = absurd h
no_space-blocks (field ∷ fields) (block ∷ blocks) h =
    All-cons HasNoSpace field fields (no_space-block field block h.0) (no_space-blocks fields blocks h.1)

-- the first word of a command; no line says an upgrade
abbrev pub keyword_of : Command → List ℕ
keyword_of Names = codes "list"
keyword_of (Create name count) = codes "create"
keyword_of (Extend name count) = codes "extend"
keyword_of (Remove name) = codes "remove"
keyword_of (Read name at count) = codes "read"
keyword_of (Write name at blocks) = codes "write"
keyword_of (Rename old new) = codes "rename"
keyword_of Upgrade = []

-- what follows the first word
abbrev pub AreFieldsOf : Command → List (List ℕ) → Type 0
AreFieldsOf Names fields = fields ≡ []
AreFieldsOf (Create name count) fields = BeginsWithNumber fields name count []
AreFieldsOf (Extend name count) fields = BeginsWithNumber fields name count []
AreFieldsOf (Remove name) fields = BeginsWithName fields name []
AreFieldsOf (Read name at count) fields = AreReadFields fields name at count
AreFieldsOf (Write name at blocks) fields = AreWriteFields fields name at blocks
AreFieldsOf (Rename old new) fields = BeginsWithNames fields old new []
AreFieldsOf Upgrade fields = ⊥

-- the fields of the line are those of the command
pub record HasFields (line : List ℕ) (c : Command) : Type 0 where
  pub after : List (List ℕ)
  pub split : fields_of line ≡ keyword_of c ∷ after
  pub are : AreFieldsOf c after

-- a line that begins with this word
pub with_fields : (keyword line : List ℕ) (fields : List (List ℕ)) → fields_of keyword ≡ keyword ∷ [] → All HasNoSpace fields
    → line ≡ keyword ++ spaced fields → fields_of line ≡ keyword ∷ fields
with_fields keyword line fields alone hs h =
    ap fields_of h ∙ fields_of-spaced keyword fields (All-head HasNoSpace keyword [] (rw alone at (no_space-fields_of keyword))) hs

-- the fields of a line of a word, a name and a number
sized_fields : (keyword line name : List ℕ) (count : ℕ) → fields_of keyword ≡ keyword ∷ [] → (h : IsSized keyword line name count)
    → (fields_of line ≡ keyword ∷ name ∷ h.count_field ∷ []) × BeginsWithNumber (name ∷ h.count_field ∷ []) name count []
sized_fields keyword line name count alone h = (
  with_fields keyword line (name ∷ h.count_field ∷ []) alone
      (All-cons HasNoSpace name (h.count_field ∷ []) h.is_name.no_space
      (All-cons HasNoSpace h.count_field [] (no_space-number h.count_field count h.is_count) (All-nil HasNoSpace)))
      h.spelled,
  record { number_field = h.count_field; spelled = refl; is_name = h.is_name.some; is_number = h.is_count },
)

-- a line has the fields of the command that it says
pub HasFields-from_Says : (line : List ℕ) (c : Command) → Says line c → HasFields line c
HasFields-from_Says line Upgrade h = absurd h
HasFields-from_Says line Names h = record { after = []; split = ap fields_of h; are = refl }
HasFields-from_Says line (Create name count) h =
    let fields = sized_fields (codes "create") line name count refl h in
    record { after = name ∷ h.count_field ∷ []; split = fields.0; are = fields.1 }
HasFields-from_Says line (Extend name count) h =
    let fields = sized_fields (codes "extend") line name count refl h in
    record { after = name ∷ h.count_field ∷ []; split = fields.0; are = fields.1 }
HasFields-from_Says line (Remove name) h = record {
  after = name ∷ [];
  split = with_fields (codes "remove") line (name ∷ []) refl (All-cons HasNoSpace name [] h.is_name.no_space (All-nil HasNoSpace)) h.spelled;
  are = record { spelled = refl; is_name = h.is_name.some };
}
HasFields-from_Says line (Rename old new) h = record {
  after = old ∷ new ∷ [];
  split =
      with_fields (codes "rename") line (old ∷ new ∷ []) refl
      (All-cons HasNoSpace old (new ∷ []) h.is_old.no_space (All-cons HasNoSpace new [] h.is_new.no_space (All-nil HasNoSpace)))
      h.spelled;
  are = record { place = record { spelled = refl; is_name = h.is_old.some }; is_name = h.is_new.some };
}
HasFields-from_Says line (Read name at count) h = record {
  after = name ∷ h.at_field ∷ h.count_field ∷ [];
  split =
      with_fields (codes "read") line (name ∷ h.at_field ∷ h.count_field ∷ []) refl
      (All-cons HasNoSpace name (h.at_field ∷ h.count_field ∷ []) h.is_name.no_space
      (All-cons HasNoSpace h.at_field (h.count_field ∷ []) (no_space-number h.at_field at h.is_at)
      (All-cons HasNoSpace h.count_field [] (no_space-number h.count_field count h.is_count) (All-nil HasNoSpace))))
      h.spelled;
  are = record {
    count_field = h.count_field;
    place = record { number_field = h.at_field; spelled = refl; is_name = h.is_name.some; is_number = h.is_at };
    is_count = h.is_count;
  };
}
HasFields-from_Says line (Write name at blocks) h = record {
  after = name ∷ h.at_field ∷ h.block_fields;
  split =
      with_fields (codes "write") line (name ∷ h.at_field ∷ h.block_fields) refl
      (All-cons HasNoSpace name (h.at_field ∷ h.block_fields) h.is_name.no_space
      (All-cons HasNoSpace h.at_field h.block_fields (no_space-number h.at_field at h.is_at)
      (no_space-blocks h.block_fields blocks h.are_blocks)))
      h.spelled;
  are = record {
    block_fields = h.block_fields;
    place = record { number_field = h.at_field; spelled = refl; is_name = h.is_name.some; is_number = h.is_at };
    are_blocks = h.are_blocks;
  };
}

-- the second field of a line that is not empty
pub second_is_field : (line keyword name : List ℕ) (after : List (List ℕ)) → fields_of line ≡ keyword ∷ name ∷ after → name ≢ [] → IsField name
second_is_field line keyword name after split some =
    let all : All HasNoSpace (keyword ∷ name ∷ after) = rw split at (no_space-fields_of line) in
    record { some = some; no_space = All-head HasNoSpace name after (All-tail HasNoSpace keyword (name ∷ after) all) }

-- and the third one
pub third_is_field : (line keyword first name : List ℕ) (after : List (List ℕ)) → fields_of line ≡ keyword ∷ first ∷ name ∷ after → name ≢ [] → IsField name
third_is_field line keyword first name after split some =
    let all : All HasNoSpace (keyword ∷ first ∷ name ∷ after) = rw split at (no_space-fields_of line) in
    record {
      some = some;
      no_space = All-head HasNoSpace name after (All-tail HasNoSpace first (name ∷ after) (All-tail HasNoSpace keyword (first ∷ name ∷ after) all));
    }

-- a line of a word, a name and a number
sized_line : (keyword line name : List ℕ) (count : ℕ) (after : List (List ℕ)) → fields_of line ≡ keyword ∷ after → BeginsWithNumber after name count []
    → IsSized keyword line name count
sized_line keyword line name count after is h =
    let split : fields_of line ≡ keyword ∷ name ∷ h.number_field ∷ [] = rw h.spelled at is in
    record {
      count_field = h.number_field;
      is_name = second_is_field line keyword name (h.number_field ∷ []) split h.is_name;
      is_count = h.is_number;
      spelled = line-fields line keyword (name ∷ h.number_field ∷ []) split;
    }

-- a line says the command whose fields it has
pub Says-from_fields : (line : List ℕ) (c : Command) → HasFields line c → Says line c
Says-from_fields line Upgrade h = absurd h.are
Says-from_fields line Names h =
    let alone : fields_of line ≡ codes "list" ∷ [] = rw h.are at h.split in
    line-fields line (codes "list") [] alone
Says-from_fields line (Create name count) h = sized_line (codes "create") line name count h.after h.split h.are
Says-from_fields line (Extend name count) h = sized_line (codes "extend") line name count h.after h.split h.are
Says-from_fields line (Remove name) h =
    let split : fields_of line ≡ codes "remove" ∷ name ∷ [] = rw h.are.spelled at h.split in
    record {
      is_name = second_is_field line (codes "remove") name [] split h.are.is_name;
      spelled = line-fields line (codes "remove") (name ∷ []) split;
    }
Says-from_fields line (Rename old new) h =
    let split : fields_of line ≡ codes "rename" ∷ old ∷ new ∷ [] = rw h.are.place.spelled at h.split in
    record {
      is_old = second_is_field line (codes "rename") old (new ∷ []) split h.are.place.is_name;
      is_new = third_is_field line (codes "rename") old new [] split h.are.is_name;
      spelled = line-fields line (codes "rename") (old ∷ new ∷ []) split;
    }
Says-from_fields line (Read name at count) h =
    let place = h.are.place in
    let split : fields_of line ≡ codes "read" ∷ name ∷ place.number_field ∷ h.are.count_field ∷ [] = rw place.spelled at h.split in
    record {
      at_field = place.number_field;
      count_field = h.are.count_field;
      is_name = second_is_field line (codes "read") name (place.number_field ∷ h.are.count_field ∷ []) split place.is_name;
      is_at = place.is_number;
      is_count = h.are.is_count;
      spelled = line-fields line (codes "read") (name ∷ place.number_field ∷ h.are.count_field ∷ []) split;
    }
Says-from_fields line (Write name at blocks) h =
    let place = h.are.place in
    let split : fields_of line ≡ codes "write" ∷ name ∷ place.number_field ∷ h.are.block_fields = rw place.spelled at h.split in
    record {
      at_field = place.number_field;
      block_fields = h.are.block_fields;
      is_name = second_is_field line (codes "write") name (place.number_field ∷ h.are.block_fields) split place.is_name;
      is_at = place.is_number;
      are_blocks = h.are.are_blocks;
      spelled = line-fields line (codes "write") (name ∷ place.number_field ∷ h.are.block_fields) split;
    }

-- the third letter of a command's word, which tells it from the others
abbrev letter_of : List ℕ → ℕ
letter_of keyword = get_or keyword 2 0

-- a command of the word `list`
as_list : (c : Command) (fields : List (List ℕ)) → letter_of (keyword_of c) ≡ 115 → AreFieldsOf c fields → (c ≡ Names) × (fields ≡ [])
as_list Upgrade fields is are = absurd are
as_list Names fields is are = (refl, are)
as_list (Create name count) fields is are = absurd (omega arith)
as_list (Extend name count) fields is are = absurd (omega arith)
as_list (Remove name) fields is are = absurd (omega arith)
as_list (Rename old new) fields is are = absurd (omega arith)
as_list (Read name at count) fields is are = absurd (omega arith)
as_list (Write name at blocks) fields is are = absurd (omega arith)

-- a command of the word `create`
as_create : (c : Command) (fields : List (List ℕ)) → letter_of (keyword_of c) ≡ 101 → AreFieldsOf c fields → (name : List ℕ) × (count : ℕ)
    × (c ≡ Create name count) × BeginsWithNumber fields name count []
as_create Upgrade fields is are = absurd are
as_create Names fields is are = absurd (omega arith)
as_create (Create name count) fields is are = (name, count, refl, are)
as_create (Extend name count) fields is are = absurd (omega arith)
as_create (Remove name) fields is are = absurd (omega arith)
as_create (Rename old new) fields is are = absurd (omega arith)
as_create (Read name at count) fields is are = absurd (omega arith)
as_create (Write name at blocks) fields is are = absurd (omega arith)

-- a command of the word `extend`
as_extend : (c : Command) (fields : List (List ℕ)) → letter_of (keyword_of c) ≡ 116 → AreFieldsOf c fields → (name : List ℕ) × (count : ℕ)
    × (c ≡ Extend name count) × BeginsWithNumber fields name count []
as_extend Upgrade fields is are = absurd are
as_extend Names fields is are = absurd (omega arith)
as_extend (Create name count) fields is are = absurd (omega arith)
as_extend (Extend name count) fields is are = (name, count, refl, are)
as_extend (Remove name) fields is are = absurd (omega arith)
as_extend (Rename old new) fields is are = absurd (omega arith)
as_extend (Read name at count) fields is are = absurd (omega arith)
as_extend (Write name at blocks) fields is are = absurd (omega arith)

-- a command of the word `remove`
as_remove : (c : Command) (fields : List (List ℕ)) → letter_of (keyword_of c) ≡ 109 → AreFieldsOf c fields → (name : List ℕ) × (c ≡ Remove name)
    × BeginsWithName fields name []
as_remove Upgrade fields is are = absurd are
as_remove Names fields is are = absurd (omega arith)
as_remove (Create name count) fields is are = absurd (omega arith)
as_remove (Extend name count) fields is are = absurd (omega arith)
as_remove (Remove name) fields is are = (name, refl, are)
as_remove (Rename old new) fields is are = absurd (omega arith)
as_remove (Read name at count) fields is are = absurd (omega arith)
as_remove (Write name at blocks) fields is are = absurd (omega arith)

-- a command of the word `rename`
as_rename : (c : Command) (fields : List (List ℕ)) → letter_of (keyword_of c) ≡ 110 → AreFieldsOf c fields → (old : List ℕ) × (new : List ℕ)
    × (c ≡ Rename old new) × BeginsWithNames fields old new []
as_rename Upgrade fields is are = absurd are
as_rename Names fields is are = absurd (omega arith)
as_rename (Create name count) fields is are = absurd (omega arith)
as_rename (Extend name count) fields is are = absurd (omega arith)
as_rename (Remove name) fields is are = absurd (omega arith)
as_rename (Rename old new) fields is are = (old, new, refl, are)
as_rename (Read name at count) fields is are = absurd (omega arith)
as_rename (Write name at blocks) fields is are = absurd (omega arith)

-- a command of the word `read`
as_read : (c : Command) (fields : List (List ℕ)) → letter_of (keyword_of c) ≡ 97 → AreFieldsOf c fields → (name : List ℕ) × (at : ℕ) × (count : ℕ)
    × (c ≡ Read name at count) × AreReadFields fields name at count
as_read Upgrade fields is are = absurd are
as_read Names fields is are = absurd (omega arith)
as_read (Create name count) fields is are = absurd (omega arith)
as_read (Extend name count) fields is are = absurd (omega arith)
as_read (Remove name) fields is are = absurd (omega arith)
as_read (Rename old new) fields is are = absurd (omega arith)
as_read (Read name at count) fields is are = (name, at, count, refl, are)
as_read (Write name at blocks) fields is are = absurd (omega arith)

-- a command of the word `write`
as_write : (c : Command) (fields : List (List ℕ)) → letter_of (keyword_of c) ≡ 105 → AreFieldsOf c fields → (name : List ℕ) × (at : ℕ) × (blocks : List Block)
    × (c ≡ Write name at blocks) × AreWriteFields fields name at blocks
as_write Upgrade fields is are = absurd are
as_write Names fields is are = absurd (omega arith)
as_write (Create name count) fields is are = absurd (omega arith)
as_write (Extend name count) fields is are = absurd (omega arith)
as_write (Remove name) fields is are = absurd (omega arith)
as_write (Rename old new) fields is are = absurd (omega arith)
as_write (Read name at count) fields is are = absurd (omega arith)
as_write (Write name at blocks) fields is are = (name, at, blocks, refl, are)

-- the same number field is one number
pub same_number : (fields : List (List ℕ)) (a b : List ℕ) (m n : ℕ) (after before : List (List ℕ)) → BeginsWithNumber fields a m after
    → BeginsWithNumber fields b n before
    → (a ≡ b) × (m ≡ n) × (after ≡ before)
same_number fields a b m n after before ha hb =
    let spelled = sym ha.spelled ∙ hb.spelled in
    let m_value = ha.is_number.value in
    let n_value = hb.is_number.value in
    (cc, cc, cc)

-- the same fields are one command at most
same_fields : (c d : Command) (fields : List (List ℕ)) → keyword_of c ≡ keyword_of d → AreFieldsOf c fields → AreFieldsOf d fields → c ≡ d
same_fields Upgrade d fields k hc hd = absurd hc
same_fields Names d fields k hc hd = sym (as_list d fields (ap letter_of (sym k)) hd).0
same_fields (Create name count) d fields k hc hd =
    let other = as_create d fields (ap letter_of (sym k)) hd in
    let same = same_number fields name other.0 count other.1 [] [] hc other.3 in
    let is = other.2 in
    let name_is = same.0 in
    let count_is = same.1 in
    cc
same_fields (Extend name count) d fields k hc hd =
    let other = as_extend d fields (ap letter_of (sym k)) hd in
    let same = same_number fields name other.0 count other.1 [] [] hc other.3 in
    let is = other.2 in
    let name_is = same.0 in
    let count_is = same.1 in
    cc
same_fields (Remove name) d fields k hc hd =
    let other = as_remove d fields (ap letter_of (sym k)) hd in
    let spelled = sym hc.spelled ∙ other.2.spelled in
    let is = other.1 in
    cc
same_fields (Rename old new) d fields k hc hd =
    let other = as_rename d fields (ap letter_of (sym k)) hd in
    let spelled = sym hc.place.spelled ∙ other.3.place.spelled in
    let is = other.2 in
    cc
same_fields (Read name at count) d fields k hc hd =
    let other = as_read d fields (ap letter_of (sym k)) hd in
    let h = other.4 in
    let same = same_number fields name other.0 at other.1 (hc.count_field ∷ []) (h.count_field ∷ []) hc.place h.place in
    let name_is = same.0 in
    let at_is = same.1 in
    let field_is = same.2 in
    let count_value = hc.is_count.value in
    let other_value = h.is_count.value in
    let is = other.3 in
    cc
same_fields (Write name at blocks) d fields k hc hd =
    let other = as_write d fields (ap letter_of (sym k)) hd in
    let h = other.4 in
    let same = same_number fields name other.0 at other.1 hc.block_fields h.block_fields hc.place h.place in
    let all = AreBlocks-one h.block_fields blocks other.2 (rw same.2 at hc.are_blocks) h.are_blocks in
    let name_is = same.0 in
    let at_is = same.1 in
    let is = other.3 in
    cc

-- no line says two commands
pub says_one_command : SaysOneCommand
says_one_command line c d hc hd =
    let fc = HasFields-from_Says line c hc in
    let fd = HasFields-from_Says line d hd in
    let same : keyword_of c ∷ fc.after ≡ keyword_of d ∷ fd.after = sym fc.split ∙ fd.split in
    let after : fc.after ≡ fd.after = cc in
    same_fields c d fd.after (cc) (rw after at fc.are) fd.are

-- a line that begins with a word, and what follows it
module _ (line keyword : List ℕ) (left : List (List ℕ)) (split : fields_of line ≡ keyword ∷ left) where
  -- the command has this word, and what follows it
  fields_of_command : (c : Command) → Says line c → (keyword ≡ keyword_of c) × AreFieldsOf c left
  fields_of_command c says =
      let h = HasFields-from_Says line c says in
      let same : keyword ∷ left ≡ keyword_of c ∷ h.after = sym split ∙ h.split in
      let rest : h.after ≡ left = cc in
      (cc, rw rest at h.are)

  -- the letter of the command is that of the word
  letter : (word : List ℕ) → keyword ≡ word → (c : Command) → Says line c → letter_of (keyword_of c) ≡ letter_of word
  letter word is c says = ap letter_of (sym (fields_of_command c says).0 ∙ is)

  -- the line says the command that has this word, and these fields after it
  says_command : (c : Command) → keyword ≡ keyword_of c → AreFieldsOf c left → Says line c
  says_command c word are = Says-from_fields line c (record { after = left; split = rw word at split; are = are })

  -- nothing after the word `list` is the command `list`
  pub list_said : keyword ≡ codes "list" → (result : Option Event) → IfSome result (λ r. (left ≡ []) × IsKept Names r)
      → IfSome result (λ r. (command : Command) × Says line command × IsKept command r)
  list_said word None h = h
  list_said word (Some r) h = (Names, says_command Names word h.0, h.1)

  -- nothing is said where the word `list` has something after it
  pub list_unsaid : keyword ≡ codes "list" → (left ≡ [] → ⊥) → (c : Command) → Says line c → ⊥
  list_unsaid word some c says = some (as_list c left (letter (codes "list") word c says) (fields_of_command c says).1).1

  -- a name and a number that are read after the word of such a command are what the line says
  pub sized_said : (command : List ℕ → ℕ → Command) → ((name : List ℕ) (count : ℕ) → keyword ≡ keyword_of (command name count))
      → ((name : List ℕ) (count : ℕ) → BeginsWithNumber left name count [] → AreFieldsOf (command name count) left)
      → (result : Option Event) → IfSome result (IsSizedEvent command left) → IfSome result (λ r. (c : Command) × Says line c × IsKept c r)
  sized_said command word are None h = h
  sized_said command word are (Some r) h = (command h.0 h.1, says_command (command h.0 h.1) (word h.0 h.1) (are h.0 h.1 h.2), h.3)

  -- nothing is said where the word `create` has no name and number after it
  pub create_unsaid : keyword ≡ codes "create" → AreUnsized left → (c : Command) → Says line c → ⊥
  create_unsaid word none c says =
      let h = as_create c left (letter (codes "create") word c says) (fields_of_command c says).1 in none h.0 h.1 h.3

  -- nor where the word `extend` has none
  pub extend_unsaid : keyword ≡ codes "extend" → AreUnsized left → (c : Command) → Says line c → ⊥
  extend_unsaid word none c says =
      let h = as_extend c left (letter (codes "extend") word c says) (fields_of_command c says).1 in none h.0 h.1 h.3

  -- what is read after the word `remove` is what the line says
  pub remove_said : keyword ≡ codes "remove" → (result : Option Event)
      → IfSome result (λ r. (name : List ℕ) × BeginsWithName left name [] × IsKept (Remove name) r)
      → IfSome result (λ r. (command : Command) × Says line command × IsKept command r)
  remove_said word None h = h
  remove_said word (Some r) h = (Remove h.0, says_command (Remove h.0) word h.1, h.2)

  -- nothing is said where the word `remove` has no name after it
  pub remove_unsaid : keyword ≡ codes "remove" → ((name : List ℕ) → BeginsWithName left name [] → ⊥) → (c : Command) → Says line c → ⊥
  remove_unsaid word none c says =
      let h = as_remove c left (letter (codes "remove") word c says) (fields_of_command c says).1 in none h.0 h.2

  -- what is read after the word `rename` is what the line says
  pub rename_said : keyword ≡ codes "rename" → (result : Option Event)
      → IfSome result (λ r. (old : List ℕ) × (new : List ℕ) × BeginsWithNames left old new [] × IsKept (Rename old new) r)
      → IfSome result (λ r. (command : Command) × Says line command × IsKept command r)
  rename_said word None h = h
  rename_said word (Some r) h = (Rename h.0 h.1, says_command (Rename h.0 h.1) word h.2, h.3)

  -- nothing is said where the word `rename` has no two names after it
  pub rename_unsaid : keyword ≡ codes "rename" → ((old new : List ℕ) → BeginsWithNames left old new [] → ⊥) → (c : Command) → Says line c → ⊥
  rename_unsaid word none c says =
      let h = as_rename c left (letter (codes "rename") word c says) (fields_of_command c says).1 in none h.0 h.1 h.3

  -- what is read after the word `read` is what the line says
  pub read_said : keyword ≡ codes "read" → (result : Option Event)
      → IfSome result (λ r. (name : List ℕ) × (at : ℕ) × (count : ℕ) × AreReadFields left name at count × IsKept (Read name at count) r)
      → IfSome result (λ r. (command : Command) × Says line command × IsKept command r)
  read_said word None h = h
  read_said word (Some r) h = (Read h.0 h.1 h.2, says_command (Read h.0 h.1 h.2) word h.3, h.4)

  -- nothing is said where the word `read` has no fields of a read after it
  pub read_unsaid : keyword ≡ codes "read" → ((name : List ℕ) (at count : ℕ) → AreReadFields left name at count → ⊥) → (c : Command) → Says line c → ⊥
  read_unsaid word none c says =
      let h = as_read c left (letter (codes "read") word c says) (fields_of_command c says).1 in none h.0 h.1 h.2 h.4

  -- what is read after the word `write` is what the line says
  pub write_said : keyword ≡ codes "write" → (result : Option Event)
      → IfSome result (λ r. (name : List ℕ) × (at : ℕ) × (all : List Block) × AreWriteFields left name at all × IsKept (Write name at all) r)
      → IfSome result (λ r. (command : Command) × Says line command × IsKept command r)
  write_said word None h = h
  write_said word (Some r) h = (Write h.0 h.1 h.2, says_command (Write h.0 h.1 h.2) word h.3, h.4)

  -- nothing is said where the word `write` has no fields of a write after it
  pub write_unsaid : keyword ≡ codes "write" → ((name : List ℕ) (at : ℕ) (all : List Block) → AreWriteFields left name at all → ⊥) → (c : Command) → Says line c
      → ⊥
  write_unsaid word none c says =
      let h = as_write c left (letter (codes "write") word c says) (fields_of_command c says).1 in none h.0 h.1 h.2 h.4

  -- nothing is said by a line whose first word is that of no command
  pub other_unsaid : (keyword ≢ codes "list") × (keyword ≢ codes "create") × (keyword ≢ codes "extend") × (keyword ≢ codes "remove") × (keyword ≢ codes "read")
      × (keyword ≢ codes "write")
      × (keyword ≢ codes "rename")
      → (c : Command) → Says line c → ⊥
  other_unsaid other Upgrade says = says
  other_unsaid other Names says = other.0 (fields_of_command Names says).0
  other_unsaid other (Create name count) says = other.1 (fields_of_command (Create name count) says).0
  other_unsaid other (Extend name count) says = other.2 (fields_of_command (Extend name count) says).0
  other_unsaid other (Remove name) says = other.3 (fields_of_command (Remove name) says).0
  other_unsaid other (Read name at count) says = other.4 (fields_of_command (Read name at count) says).0
  other_unsaid other (Write name at blocks) says = other.5 (fields_of_command (Write name at blocks) says).0
  other_unsaid other (Rename old new) says = other.6 (fields_of_command (Rename old new) says).0
