-- The verdict on a program's events is its first early error on names, at its byte.
use Rattle.std.proofs.Common.{◌≡◌, ℕ, zero, suc, List, [], ◌∷◌, ◌++◌, Bool, true, false, cond, refl, sym, ap, ◌∙◌, subst, Option, Some, None}
use Rattle.std.specs.Prelude.{IsTrue, nat_lt}
use Rattle.std.specs.Option.{option_map}
use Rattle.jsx_base.specs.Token.{Text}
use Rattle.jsx_tree.specs.declared.text.Goal.{Goal}
use Rattle.jsx_tree.specs.declared.program.Program.{Program}
use Rattle.jsx_tree.specs.Kinds.{Script, program, Tree}
use Rattle.jsx_tree.specs.Nonterminals.{WholeProgram}
use Rattle.jsx_tree.specs.Normal.{without_parentheses}
use Rattle.jsx_tree.specs.Program.{Reads}
use Rattle.jsx_tree.specs.Reading.{At, ended_at, scan, reads}
use Rattle.jsx_tree.specs.Signs.{AfterExpr}
use Rattle.jsx_tree.specs.Spelling.{spelled}
use Rattle.jsx_tree.specs.Form.{is}
use Rattle.jsx_tree.proofs.Tokens.{and_left}
use Rattle.jsx_tree.specs.Scopes.{Path, Declaration}
use Rattle.jsx_tree.specs.Clashes.{first_clash}
use Rattle.jsx_tree.specs.Spans.{Placed, IsTold, placed_in}
use Rattle.jsx_tree.specs.Told.{told}
use Rattle.jsx_tree.specs.ViewProgram.{view}
use Rattle.jsx_names.specs.declared.event.Event as code
use Rattle.jsx_names.specs.Events.{OfModule, OfScript, OfFunction, OfBlock, OfCatch, OfName, Event, Opens, Enters, Closes, Declares, Refers, Exports, Wants, Evals, Plain, events}
use Rattle.jsx_names.specs.Answers.{all_of, collected, evals_in}
use Rattle.jsx_names.specs.Code.{plain, plain_all, place_in, verdict, verdict_of}
use Rattle.jsx_names.specs.Faults.{Extent, Noted, again, calls, earlier, exporting, first, first_amiss, first_faulty, is_again, is_late_at, is_unknown, late, noting, placed, placed_at, unknown, within}
use Rattle.jsx_names.specs.Heard.{bare_all}
use Rattle.jsx_names.specs.Proper.{proper}
use Rattle.jsx_names.proofs.BareTrees.{read_bare}
use Rattle.jsx_names.proofs.Heard.{heard_tree}
use Rattle.jsx_names.proofs.Orderly.{first_by_number}
use Rattle.jsx_names.proofs.Pathless.{first_alike, calls_alike}
use Rattle.jsx_names.proofs.ScopeNames.{never}
use Rattle.jsx_names.proofs.Whole.{calls_told}
use Rattle.jsx_heard.specs.Bytes.{byte_at, byte_of, byte_in, bytes_in, bytes_of, events_of}
use Rattle.jsx_heard.specs.Early.{Early}
use Rattle.jsx_heard.specs.Said.{met_all, of_program}
use Rattle.jsx_heard.proofs.SaidHeard.{program_heard}
use Rattle.jsx_heard.proofs.Shaped.{IsShaped, program_shaped}
use Rattle.jsx_heard.proofs.InBytes.{far_zero, program_bytes}
use Rattle.jsx_heard.proofs.ToldBytes.{far}
use Rattle.jsx_heard.proofs.NamesTold.{program_told}

-- ---- the event with a number

abbrev is_placed : Event → Bool
is_placed (Declares h s t p) = true
is_placed (Exports t a) = true
is_placed (Wants t a) = true
is_placed e = false

abbrev is_placed_at : ℕ → List Event → Bool
is_placed_at i [] = false
is_placed_at zero (e ∷ es) = is_placed e
is_placed_at (suc i) (e ∷ es) = is_placed_at i es

abbrev nth : ℕ → List ℕ → ℕ
nth i [] = 0
nth zero (x ∷ xs) = x
nth (suc i) (x ∷ xs) = nth i xs

placed_byte : (q : Placed) (e : Event) → is_placed e ≡ true → byte_of (placed e) q ≡ byte_in q e
placed_byte q (Declares h s t p) m = refl
placed_byte q (Exports t a) m = refl
placed_byte q (Wants t a) m = refl
placed_byte q e m = never m

numbered_byte : (q : Placed) (es : List Event) (i : ℕ) → is_placed_at i es ≡ true → byte_of (placed_at es i) q ≡ nth i (bytes_in q es)
numbered_byte q [] i m = never m
numbered_byte q (e ∷ es) zero m = placed_byte q e m
numbered_byte q (e ∷ es) (suc i) m = numbered_byte q es i m

met_byte : (es : List code.Event) (i : ℕ) → (place_in es i).0 ≡ nth i (bytes_of (met_all es))
met_byte [] i = refl
met_byte (e ∷ es) zero = refl
met_byte (e ∷ es) (suc i) = met_byte es i

met_plain : (es : List code.Event) → plain_all es ≡ events_of (met_all es)
met_plain [] = refl
met_plain (e ∷ es) = ap (λ z. plain e ∷ z) (met_plain es)

abbrev is_there : Option ℕ → Bool
is_there (Some i) = true
is_there None = false

abbrev got : Option ℕ → ℕ
got (Some i) = i
got None = 0

some_same : (i k : ℕ) → Some i ≡ Some k → i ≡ k
some_same i k h = ap got h

-- number k of events that begin with number i is that of one at a place
record Spot (i k : ℕ) (es : List Event) : Type 0 where
  number : ℕ
  is : far number i ≡ k
  stands : is_placed_at number es ≡ true

at_once : (i k : ℕ) (e : Event) (es : List Event) → Some i ≡ Some k → is_placed e ≡ true → Spot i k (e ∷ es)
at_once i k e es h m = record { number = 0; is = some_same i k h; stands = m }

later : (i k : ℕ) (e : Event) (es : List Event) → Spot (suc i) k es → Spot i k (e ∷ es)
later i k e es s = record { number = suc s.number; is = s.is; stands = s.stands }

no_spot : {X : Type 0} (k : ℕ) → None ≡ Some k → X
no_spot k h = never (ap is_there h)

late_placed : (i : ℕ) (ns : List Extent) (ks : List Noted) (e : Event) → is_late_at i ns ks e ≡ true → is_placed e ≡ true
late_placed i [] ks e h = never h
late_placed i (n ∷ ns) ks (Declares g s t p) h = refl
late_placed i (n ∷ ns) ks e h = never h

again_placed : (us : List Text) (e : Event) → is_again us e ≡ true → is_placed e ≡ true
again_placed us (Exports t a) h = refl
again_placed us e h = never h

unknown_placed : (ds : List Declaration) (e : Event) → is_unknown ds e ≡ true → is_placed e ≡ true
unknown_placed ds (Wants t a) h = refl
unknown_placed ds e h = never h

spot_if : (i k : ℕ) (e : Event) (es : List Event) (b : Bool) (xs : List ℕ) → (b ≡ true → is_placed e ≡ true) → (first xs ≡ Some k → Spot (suc i) k es) → first (cond b (i ∷ []) [] ++ xs) ≡ Some k → Spot i k (e ∷ es)
spot_if i k e es true xs f g h = at_once i k e es h (f refl)
spot_if i k e es false xs f g h = later i k e es (g h)

late_spot : (i : ℕ) (ns : List Extent) (ks : List Noted) (es : List Event) (k : ℕ) → first (late i ns ks es) ≡ Some k → Spot i k es
late_spot i ns ks [] k h = no_spot k h
late_spot i ns ks (e ∷ es) k h = spot_if i k e es (is_late_at i ns ks e) (late (suc i) (within i ns e es) (noting i ns ks e) es) (late_placed i ns ks e) (λ x. late_spot (suc i) (within i ns e es) (noting i ns ks e) es k x) h

again_spot : (i : ℕ) (us : List Text) (es : List Event) (k : ℕ) → first (again i us es) ≡ Some k → Spot i k es
again_spot i us [] k h = no_spot k h
again_spot i us (e ∷ es) k h = spot_if i k e es (is_again us e) (again (suc i) (exporting us e) es) (again_placed us e) (λ x. again_spot (suc i) (exporting us e) es k x) h

unknown_spot : (i : ℕ) (ds : List Declaration) (es : List Event) (k : ℕ) → first (unknown i ds es) ≡ Some k → Spot i k es
unknown_spot i ds [] k h = no_spot k h
unknown_spot i ds (e ∷ es) k h = spot_if i k e es (is_unknown ds e) (unknown (suc i) ds es) (unknown_placed ds e) (λ x. unknown_spot (suc i) ds es k x) h

either_spot : {X : Type 0} (a b : Option ℕ) (k : ℕ) → (a ≡ Some k → X) → (b ≡ Some k → X) → earlier a b ≡ Some k → X
either_spot None b k f g h = g h
either_spot (Some i) None k f g h = f h
either_spot {X} (Some i) (Some j) k f g h = by (nat_lt j i) h
  where
    by : (c : Bool) → Some (cond c j i) ≡ Some k → X
    by true x = g x
    by false x = f x

amiss_spot : (es : List Event) (k : ℕ) → first_amiss es ≡ Some k → Spot 0 k es
amiss_spot [] k h = no_spot k h
amiss_spot (Opens OfModule p ∷ es) k h =
    later 0 k (Opens OfModule p) es (either_spot (first (again 1 [] es)) (first (unknown 1 (all_of (collected [] es)) es)) k (λ x. again_spot 1 [] es k x) (λ x. unknown_spot 1 (all_of (collected [] es)) es k x) h)
amiss_spot (Opens OfScript p ∷ es) k h = no_spot k h
amiss_spot (Opens OfFunction p ∷ es) k h = no_spot k h
amiss_spot (Opens OfBlock p ∷ es) k h = no_spot k h
amiss_spot (Opens OfCatch p ∷ es) k h = no_spot k h
amiss_spot (Opens OfName p ∷ es) k h = no_spot k h
amiss_spot (Enters ∷ es) k h = no_spot k h
amiss_spot (Closes ∷ es) k h = no_spot k h
amiss_spot (Declares g s t p ∷ es) k h = no_spot k h
amiss_spot (Refers t p ∷ es) k h = no_spot k h
amiss_spot (Exports t a ∷ es) k h = no_spot k h
amiss_spot (Wants t a ∷ es) k h = no_spot k h
amiss_spot (Evals p ∷ es) k h = no_spot k h

faulty_spot : (es : List Event) (k : ℕ) → first_faulty es ≡ Some k → Spot 0 k es
faulty_spot es k h = either_spot (first (late 0 [] [] es)) (first_amiss es) k (λ x. late_spot 0 [] [] es k x) (λ x. amiss_spot es k x) h

-- so the byte there is that of the event's place
fault_byte : (q : Placed) (es : List Event) (k : ℕ) → first_faulty es ≡ Some k → byte_of (placed_at es k) q ≡ nth k (bytes_in q es)
fault_byte q es k h =
    let s = faulty_spot es k h in
    numbered_byte q es k (subst (λ z. is_placed_at z es ≡ true) (sym (far_zero s.number) ∙ s.is) s.stands)

-- ---- the first call

record CallSpot (i k : ℕ) (es : List Event) (q : Placed) : Type 0 where
  number : ℕ
  is : far number i ≡ k
  path : Path
  others : List Path
  calls' : evals_in es ≡ path ∷ others
  byte : nth number (bytes_in q es) ≡ byte_at path q

later_call : (i k : ℕ) (e : Event) (es : List Event) (q : Placed) → evals_in (e ∷ es) ≡ evals_in es → CallSpot (suc i) k es q → CallSpot i k (e ∷ es) q
later_call i k e es q m s = record { number = suc s.number; is = s.is; path = s.path; others = s.others; calls' = m ∙ s.calls'; byte = s.byte }

call_spot : (i : ℕ) (es : List Event) (q : Placed) (k : ℕ) → first (calls i es) ≡ Some k → CallSpot i k es q
call_spot i [] q k h = no_spot k h
call_spot i (Evals p ∷ es) q k h = record { number = 0; is = some_same i k h; path = p; others = evals_in es; calls' = refl; byte = refl }
call_spot i (Opens f p ∷ es) q k h = later_call i k (Opens f p) es q refl (call_spot (suc i) es q k h)
call_spot i (Enters ∷ es) q k h = later_call i k Enters es q refl (call_spot (suc i) es q k h)
call_spot i (Closes ∷ es) q k h = later_call i k Closes es q refl (call_spot (suc i) es q k h)
call_spot i (Declares g s t p ∷ es) q k h = later_call i k (Declares g s t p) es q refl (call_spot (suc i) es q k h)
call_spot i (Refers t p ∷ es) q k h = later_call i k (Refers t p) es q refl (call_spot (suc i) es q k h)
call_spot i (Exports t a ∷ es) q k h = later_call i k (Exports t a) es q refl (call_spot (suc i) es q k h)
call_spot i (Wants t a ∷ es) q k h = later_call i k (Wants t a) es q refl (call_spot (suc i) es q k h)

no_calls : (i : ℕ) (es : List Event) → first (calls i es) ≡ None → evals_in es ≡ []
no_calls i [] h = refl
no_calls i (Evals p ∷ es) h = no_spot i (sym h)
no_calls i (Opens f p ∷ es) h = no_calls (suc i) es h
no_calls i (Enters ∷ es) h = no_calls (suc i) es h
no_calls i (Closes ∷ es) h = no_calls (suc i) es h
no_calls i (Declares g s t p ∷ es) h = no_calls (suc i) es h
no_calls i (Refers t p ∷ es) h = no_calls (suc i) es h
no_calls i (Exports t a ∷ es) h = no_calls (suc i) es h
no_calls i (Wants t a ∷ es) h = no_calls (suc i) es h

-- ---- the verdict

-- what is known of a program's events
record IsHeard (t : Tree) (q : Placed) (es : List code.Event) : Type 0 where
  is_proper : proper t ≡ true
  plainly : plain_all es ≡ bare_all (events t)
  bytes : bytes_of (met_all es) ≡ bytes_in q (events t)

fault_is : (t : Tree) (q : Placed) (es : List code.Event) (o : Option ℕ) → IsHeard t q es → first_faulty (plain_all es) ≡ o → first_faulty (events t) ≡ o
fault_is t q es o x h = sym (first_alike (events t)) ∙ (ap first_faulty (sym x.plainly) ∙ h)

calls_is : (t : Tree) (q : Placed) (es : List code.Event) (o : Option ℕ) → IsHeard t q es → first (calls 0 (plain_all es)) ≡ o → first (calls 0 (events t)) ≡ o
calls_is t q es o x h = ap first (sym (calls_alike (events t))) ∙ (ap (λ z. first (calls 0 z)) (sym x.plainly) ∙ h)

clash_is : (t : Tree) (q : Placed) (es : List code.Event) (o : Option ℕ) → IsHeard t q es → first_faulty (plain_all es) ≡ o → first_clash t ≡ option_map (placed_at (events t)) o
clash_is t q es o x h = first_by_number t x.is_proper ∙ ap (option_map (placed_at (events t))) (fault_is t q es o x h)

byte_is : (t : Tree) (q : Placed) (es : List code.Event) (i : ℕ) → IsHeard t q es → (place_in es i).0 ≡ nth i (bytes_in q (events t))
byte_is t q es i x = met_byte es i ∙ ap (nth i) x.bytes

early_of : (t : Tree) (q : Placed) (es : List code.Event) (o c : Option ℕ) → IsHeard t q es → first_faulty (plain_all es) ≡ o → first (calls 0 (plain_all es)) ≡ c → Early t q (verdict_of o c es)
early_of t q es (Some i) c x f g =
    record { place = placed_at (events t) i; first = clash_is t q es (Some i) x f; at = byte_is t q es i x ∙ sym (fault_byte q (events t) i (fault_is t q es (Some i) x f)) }
early_of t q es None (Some i) x f g =
    let s = call_spot 0 (events t) q i (calls_is t q es (Some i) x g) in
    record {
      path = s.path;
      others = s.others;
      clean = clash_is t q es None x f;
      calls = sym (calls_told t x.is_proper) ∙ s.calls';
      at = byte_is t q es i x ∙ (ap (λ z. nth z (bytes_in q (events t))) (sym s.is ∙ far_zero s.number) ∙ s.byte);
    }
early_of t q es None None x f g = record { clean = clash_is t q es None x f; uncalled = sym (calls_told t x.is_proper) ∙ no_calls 0 (events t) (calls_is t q es None x g) }

is_so : (b : Bool) → IsTrue b → b ≡ true
is_so true h = refl
is_so false h = cc

read_whole : (text : Text) (w : Tree) → IsTrue (reads text w) → is WholeProgram w ≡ true
read_whole text w h = and_left (is WholeProgram w) (ended_at (scan (At [] AfterExpr text) (spelled w))) (is_so (reads text w) h)

pub early_in_place : (goal : Goal) (text : Text) (from : ℕ) (w : Tree) (p : Program) (es : List code.Event) → Reads goal text w → view p ≡ without_parentheses w → IsTold (told p) (placed_in from text w) → met_all es ≡ of_program (view p) (told p) → Early (view p) (placed_in from text w) (verdict es)
early_in_place goal text from w p es r v k m =
    let q = placed_in from text w in
    let x : IsHeard (view p) q es = record {
      is_proper = ap proper v ∙ read_bare goal text w r;
      plainly = met_plain es ∙ (ap events_of m ∙ (program_heard (view p) (told p) ∙ sym (heard_tree Plain (program Script) WholeProgram [] (view p))));
      bytes = ap bytes_of m ∙ program_bytes (view p) (told p) q (subst (λ z. IsShaped WholeProgram z q) (sym v) (program_shaped from text w (read_whole text w r.read))) k (program_told p);
    } in
    early_of (view p) q es (first_faulty (plain_all es)) (first (calls 0 (plain_all es))) x refl refl
