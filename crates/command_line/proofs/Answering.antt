-- What the answer to the program's words says.
use Rattle.std.proofs.Common.{◌≡◌, ◌∙◌, inl, inr, true, false, refl, ℕ, [], List, Option, Some, None, ap, sym, subst, codes}
use Rattle.std.specs.Prelude.{Result, Ok, Err, IfErr, IfOk, IsSomeAnd}
use Rattle.std.specs.Str.{bytes_eq}
use Rattle.clap.specs.Faults.{fault_of, is_simple_and_free}
use Rattle.clap.specs.Kinds.{HasKind}
use Rattle.clap.specs.Simple.{App, HasMatchesOf, is_simple, subcommand_of, subcommand_rows_of}
use Rattle.clap.specs.Walk.{Row, Text, first_of}
use Rattle.clap.specs.declared.error.Error.{Error}
use Rattle.clap.specs.declared.parser.matches.ArgMatches.{ArgMatches}
use Rattle.command_line.specs.declared.Asked.{Asked}
use Rattle.command_line.specs.declared.Invocation.{Invocation}
use Rattle.command_line.specs.declared.InvocationFault.{InvocationFault}
use Rattle.command_line.specs.declared.InvocationFault.TheVariants.{BadId, BadShape, BadSize, Usage}
use Rattle.command_line.specs.declared.SetChoice.{SetChoice}
use Rattle.command_line.specs.declared.Size.{Size}
use Rattle.command_line.specs.Commands.{raidtool_app}
use Rattle.command_line.specs.Invocations.{AsksFor, AsksIn, Enters, HasBadId, HasBadSize, HasExtent, HasRoom, IsBySize, IsByStripes, IsChoice, IsFaultIn}
use Rattle.command_line.specs.Invocations.{IsFaultOf, IsTaken, SaysInvocation, of_extent, of_room}
use Rattle.command_line.specs.Requests.{AnswersBy, IsAskedBy, IsLineOf, Request, words_of}
use Rattle.command_line.proofs.OneAsked.{one_form, one_name, one_rows, same_text, two_names}

-- ---- from clap's matches to the words

-- a parse that succeeds took the words, and found what they name
pub finds : (command : App) (words : List Text) (m : ArgMatches) → command ≡ raidtool_app → (is_simple_and_free command ≡ true → fault_of command words ≡ [])
    → HasMatchesOf command words m → IsTaken words × (subcommand_rows_of m ≡ subcommand_of raidtool_app words)
finds command words m is faultless matched = (
  ap (λ a. fault_of a words) (sym is) ∙ faultless (ap is_simple_and_free is),
  (matched (ap is_simple is)).1 ∙ ap (λ a. subcommand_of a words) is,
)

-- a parse that fails says why
pub fails : (command : App) (words : List Text) (fault : InvocationFault) (error : Error) → fault ≡ Usage error → command ≡ raidtool_app
    → (is_simple_and_free command ≡ true → HasKind (fault_of command words) error) → IsFaultOf words fault
fails command words fault error is same says =
    let kind : HasKind (fault_of raidtool_app words) error =
    subst (λ (a : App). HasKind (fault_of a words) error) same (says (ap is_simple_and_free same)) in
    subst (IsFaultOf words) (sym is) kind

-- what the matches say, the words ask for
pub asks_for : (words : List Text) (found : Option (Text × List Row)) → IsTaken words → found ≡ subcommand_of raidtool_app words → (asked : Asked)
    → IsSomeAnd found (λ e. AsksIn e.0 e.1 asked) → AsksFor words asked
asks_for words None taken is asked h = absurd h
asks_for words (Some e) taken is asked h = (e.0, e.1, record { taken = taken; entered = sym is }, h)

pub refuses : (words : List Text) (found : Option (Text × List Row)) → IsTaken words → found ≡ subcommand_of raidtool_app words → (fault : InvocationFault)
    → IsSomeAnd found (λ e. IsFaultIn e.0 e.1 fault) → IsFaultOf words fault
refuses words None taken is fault h = absurd h
refuses words (Some e) taken is BadId h = (e.0, e.1, record { taken = taken; entered = sym is }, h)
refuses words (Some e) taken is BadShape h = (e.0, e.1, record { taken = taken; entered = sym is }, h)
refuses words (Some e) taken is BadSize h = (e.0, e.1, record { taken = taken; entered = sym is }, h)
refuses words (Some e) taken is (Usage error) h = absurd h

-- ---- from the words to the answer

-- clap takes the words of a command, and finds in them its values and no fault
pub record Reads (request : Request) : Type 0 where
  pub name : Text
  pub rows : List Row
  pub enters : Enters (words_of request) name rows
  pub good : (fault : InvocationFault) → ¬ IsFaultIn name rows fault
  pub says : (choice : SetChoice) (line : Invocation) → SaysInvocation name rows choice line → IsLineOf request choice line

-- an id that chooses a set is no bad id
pub no_bad : (name : Text) (rows : List Row) (text : Text) → first_of (codes "id") rows ≡ Some text → IsChoice name text → ¬ HasBadId name rows
no_bad name rows text has is_choice bad = bad.2 (subst (IsChoice name) (same_text text bad.0 (sym has ∙ bad.1)) is_choice)

-- a good id is the only thing that a command without sizes needs
pub no_fault_in : (name : Text) (rows : List Row) → bytes_eq name (codes "make") ≡ false → bytes_eq name (codes "create") ≡ false
    → bytes_eq name (codes "extend") ≡ false → ¬ HasBadId name rows → (fault : InvocationFault) → ¬ IsFaultIn name rows fault
no_fault_in name rows m c e good BadId bad = good bad
no_fault_in name rows m c e good BadShape bad = two_names name (codes "make") m bad.1
no_fault_in name rows m c e good BadSize bad = sizes bad.1
  where
    sizes : HasBadSize name rows → ⊥
    sizes (of_room is by_size none) = two_names name (codes "make") m is
    sizes (of_extent (inl is) none) = two_names name (codes "create") c is
    sizes (of_extent (inr is) none) = two_names name (codes "extend") e is
no_fault_in name rows m c e good (Usage error) bad = bad

-- `make` needs a form too
pub no_fault_by_stripes : (rows : List Row) → IsByStripes rows → ¬ HasBadId (codes "make") rows
    → (fault : InvocationFault) → ¬ IsFaultIn (codes "make") rows fault
no_fault_by_stripes rows form good BadId bad = good bad
no_fault_by_stripes rows form good BadShape bad = bad.2.0 form
no_fault_by_stripes rows form good BadSize bad = sizes bad.1
  where
    sizes : HasBadSize (codes "make") rows → ⊥
    sizes (of_room is by_size none) = one_form rows form by_size
    sizes (of_extent (inl is) none) = two_names (codes "make") (codes "create") refl is
    sizes (of_extent (inr is) none) = two_names (codes "make") (codes "extend") refl is
no_fault_by_stripes rows form good (Usage error) bad = bad

-- or the other one, and a size
pub no_fault_by_size : (rows : List Row) (size : Size) → IsBySize rows → HasRoom rows size → ¬ HasBadId (codes "make") rows
    → (fault : InvocationFault) → ¬ IsFaultIn (codes "make") rows fault
no_fault_by_size rows size form room good BadId bad = good bad
no_fault_by_size rows size form room good BadShape bad = bad.2.1 form
no_fault_by_size rows size form room good BadSize bad = sizes bad.1
  where
    sizes : HasBadSize (codes "make") rows → ⊥
    sizes (of_room is by_size none) = none size room
    sizes (of_extent (inl is) none) = two_names (codes "make") (codes "create") refl is
    sizes (of_extent (inr is) none) = two_names (codes "make") (codes "extend") refl is
no_fault_by_size rows size form room good (Usage error) bad = bad

-- a command with SIZE needs a size
pub no_fault_sized : (name : Text) (rows : List Row) (blocks : ℕ) → bytes_eq name (codes "make") ≡ false → HasExtent rows blocks → ¬ HasBadId name rows
    → (fault : InvocationFault) → ¬ IsFaultIn name rows fault
no_fault_sized name rows blocks m extent good BadId bad = good bad
no_fault_sized name rows blocks m extent good BadShape bad = two_names name (codes "make") m bad.1
no_fault_sized name rows blocks m extent good BadSize bad = sizes bad.1
  where
    sizes : HasBadSize name rows → ⊥
    sizes (of_room is by_size none) = two_names name (codes "make") m is
    sizes (of_extent named none) = none blocks extent
no_fault_sized name rows blocks m extent good (Usage error) bad = bad

-- so they are answered with what it asks for
pub answered : (words : List Text) (request : Request) → words ≡ words_of request → Reads request → (result : Result Asked InvocationFault)
    → IfOk result (AsksFor words) → IfErr result (IsFaultOf words) → AnswersBy (IsAskedBy request) result
answered words request is reads result ok err = by result ok err
  where
    enters : Enters words reads.name reads.rows
    enters = rw is reads.enters

    -- the program finds no fault of its own
    own : (fault : InvocationFault) → (name : Text) × (rows : List Row) × Enters words name rows × IsFaultIn name rows fault → ⊥
    own fault f =
        let name = one_name words f.0 reads.name f.1 reads.rows f.2 enters in
        let found = one_rows words f.0 reads.name f.1 reads.rows f.2 enters in
        reads.good fault
        (subst (λ (n : Text). IsFaultIn n reads.rows fault) name (subst (λ (rs : List Row). IsFaultIn f.0 rs fault) found f.3))

    by : (r : Result Asked InvocationFault) → IfOk r (AsksFor words) → IfErr r (IsFaultOf words) → AnswersBy (IsAskedBy request) r
    by (Ok asked) ok err =
        let named = one_name words ok.0 reads.name ok.1 reads.rows ok.2 enters in
        let found = one_rows words ok.0 reads.name ok.1 reads.rows ok.2 enters in
        reads.says asked.choice asked.line
        (subst (λ (n : Text). AsksIn n reads.rows asked) named (subst (λ (rs : List Row). AsksIn ok.0 rs asked) found ok.3))
    by (Err BadId) ok err = own BadId err
    by (Err BadShape) ok err = own BadShape err
    by (Err BadSize) ok err = own BadSize err
    by (Err (Usage error)) ok err =
        let kind : HasKind [] error = rw enters.taken at err in
        elim kind [ inl memory ↦ memory | inr none ↦ absurd none ]
