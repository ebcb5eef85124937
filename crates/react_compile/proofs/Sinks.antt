-- What a sink gains.
use Rattle.std.proofs.Common.{◌≡◌, ℕ, ◌<◌, ◌≤◌, List, [], ◌∷◌, ◌++◌, append-nil, length, refl, sym, ap, subst, ◌∙◌, inl, inr, Option, Some, None, ◌⊎◌}
use Rattle.std.specs.Io.KnownBytes.{append_known}
use Rattle.jsx_base.specs.Faults.{Rose}
use Rattle.jsx_base.specs.Sink.{Gains, GainsPrefix}
use Rattle.std.specs.Str.{IsUtf8, IsValidUpTo}
use Rattle.jsx_tree.specs.Kinds.{Tree}
use Rattle.jsx_tree.specs.Depth.{depth}
use Rattle.jsx_tree.specs.declared.text.Goal.TheVariants as goals
use Rattle.react_compile.specs.Compiles.{IsSource}
use Rattle.react_compile.specs.Names.{HasClash, HasDirectEval}
use Rattle.react_compile.specs.Lines.{SaysWhy, bad_words, read_fault, out_of_memory, input_too_big, max_depth, not_utf8, syntax_error, too_deep, name_error, direct_eval, fault_at}
use Rattle.react_compile.specs.Run.{TakesAll, TakesTooMany, KeepsTold, TellsWhy, TellsTooBig, TellsPrefix, GainsWhy, GainsWhyPrefix, max_source}

pub gains_nothing : (held : Option (List ℕ)) → Gains held held []
gains_nothing None = refl
gains_nothing (Some bytes) = ap Some (sym (append-nil bytes))

pub gains_no_prefix : (held : Option (List ℕ)) (bytes : List ℕ) → GainsPrefix held held bytes
gains_no_prefix held bytes = (0, gains_nothing held)

pub tells_memory : (words : Type 0) (left rest : Option (List ℕ)) (a b : ℕ) (held holds : Option (List ℕ)) → GainsPrefix held holds out_of_memory → TellsPrefix words left rest a b held holds
tells_memory words left rest a b held holds g = record { line = out_of_memory; cause = inr (inr (inl refl)); gains = g }

-- a prefix of a line, or of the one of want of memory
abbrev Either : Option (List ℕ) → Option (List ℕ) → List ℕ → Type 0
Either held holds line = GainsPrefix held holds line ⊎ GainsPrefix held holds out_of_memory

pub tells_bad_words : (words : Type 0) (left rest : Option (List ℕ)) (a b : ℕ) (held holds : Option (List ℕ)) → words → Either held holds bad_words → TellsPrefix words left rest a b held holds
tells_bad_words words left rest a b held holds w (inl g) = record { line = bad_words; cause = inl (refl, w); gains = g }
tells_bad_words words left rest a b held holds w (inr g) = tells_memory words left rest a b held holds g

pub tells_read_fault : (words : Type 0) (left rest : Option (List ℕ)) (a b : ℕ) (held holds : Option (List ℕ)) → Rose a b → Either held holds read_fault → TellsPrefix words left rest a b held holds
tells_read_fault words left rest a b held holds r (inl g) = record { line = read_fault; cause = inr (inl (refl, r)); gains = g }
tells_read_fault words left rest a b held holds r (inr g) = tells_memory words left rest a b held holds g

pub tells_too_big : (words : Type 0) (left rest : Option (List ℕ)) (a b : ℕ) (held holds : Option (List ℕ)) → TakesTooMany left rest → Either held holds input_too_big → TellsPrefix words left rest a b held holds
tells_too_big words left rest a b held holds t (inl g) = record { line = input_too_big; cause = inr (inr (inr (inr (refl, t)))); gains = g }
tells_too_big words left rest a b held holds t (inr g) = tells_memory words left rest a b held holds g

pub tells_of_source : (words : Type 0) (left rest : Option (List ℕ)) (a b : ℕ) (held holds : Option (List ℕ)) (source : List ℕ) → TakesAll left rest source → length source ≤ max_source
    → GainsPrefix held holds out_of_memory ⊎ GainsWhyPrefix source held holds → TellsPrefix words left rest a b held holds
tells_of_source words left rest a b held holds source all few (inl g) = tells_memory words left rest a b held holds g
tells_of_source words left rest a b held holds source all few (inr t) =
    record { line = t.line; cause = inr (inr (inr (inl (record { source = source; taken = all; few = few; why = t.why })))); gains = t.gains }

pub tells_why : (left rest held holds : Option (List ℕ)) (source : List ℕ) → TakesAll left rest source → length source ≤ max_source → GainsWhy source held holds
    → TellsWhy left rest held holds ⊎ TellsTooBig left rest held holds
tells_why left rest held holds source all few t = inl (record { line = t.line; cause = record { source = source; taken = all; few = few; why = t.why }; says = t.gains })

-- the line that says why a source isn't compiled, whole or as far as it went out

pub gains_why : (source : List ℕ) (held holds : Option (List ℕ)) (line : List ℕ) → SaysWhy source line → Gains held holds line → GainsWhy source held holds
gains_why source held holds line w g = record { line = line; why = w; gains = g }

pub gains_why_prefix : (source : List ℕ) (held holds : Option (List ℕ)) (line : List ℕ) → SaysWhy source line → Either held holds line → GainsPrefix held holds out_of_memory ⊎ GainsWhyPrefix source held holds
gains_why_prefix source held holds line w (inl g) = inr (record { line = line; why = w; gains = g })
gains_why_prefix source held holds line w (inr g) = inl g

pub says_not_utf8 : (source : List ℕ) (n : ℕ) → IsValidUpTo source n → SaysWhy source (not_utf8 n)
says_not_utf8 source n v = inl (record { at = n; valid = v; line_is = refl })

pub says_syntax : (source : List ℕ) (at : ℕ) → IsUtf8 source → ((tree : Tree) → IsSource goals.Module source tree → ⊥) → at ≤ length source → SaysWhy source (fault_at syntax_error source at)
says_syntax source at u none_reads within = inr (inl (record { at = at; utf8 = u; no_tree = none_reads; within = within; line_is = refl }))

pub says_too_deep : (source : List ℕ) (at : ℕ) → IsUtf8 source → ((tree : Tree) → IsSource goals.Module source tree → max_depth < depth tree) → at ≤ length source → SaysWhy source (fault_at too_deep source at)
says_too_deep source at u deep_trees within = inr (inr (inl (record { at = at; utf8 = u; deep_tree = deep_trees; within = within; line_is = refl })))

pub says_clash : (source : List ℕ) (at : ℕ) → HasClash goals.Module source max_depth at → SaysWhy source (fault_at name_error source at)
says_clash source at h = inr (inr (inr (inl (record { at = at; clash = h; line_is = refl }))))

pub says_direct_eval : (source : List ℕ) (at : ℕ) → HasDirectEval goals.Module source max_depth at → SaysWhy source (fault_at direct_eval source at)
says_direct_eval source at h = inr (inr (inr (inr (record { at = at; call = h; line_is = refl }))))

-- a line that was made is the one that is promised

pub gains_same : (held holds : Option (List ℕ)) (made line : List ℕ) → made ≡ line → Gains held holds made → Gains held holds line
gains_same held holds made line same g = subst (λ xs. Gains held holds xs) same g

pub gains_same_prefix : (held holds : Option (List ℕ)) (made line : List ℕ) → made ≡ line → Either held holds made → Either held holds line
gains_same_prefix held holds made line same g = subst (λ xs. Either held holds xs) same g

-- a sink that tells its bytes gained none only of an empty code
pub gains_none : (held holds : Option (List ℕ)) (code : List ℕ) → KeepsTold held holds → Gains held holds code → code ≡ []
gains_none held holds code k g = let e : Some k.bytes ≡ Some (k.bytes ++ code) = sym k.new ∙ g ∙ ap (λ o. append_known o code) k.old in none_more k.bytes code (let f : k.bytes ≡ k.bytes ++ code = cc in f)
  where
    none_more : (xs ys : List ℕ) → xs ≡ xs ++ ys → ys ≡ []
    none_more [] ys e = sym e
    none_more (x ∷ xs) ys e = none_more xs ys (let f : xs ≡ xs ++ ys = cc in f)

pub ruleset telling = (gains_nothing, gains_no_prefix, tells_memory, tells_bad_words, tells_read_fault, tells_too_big, tells_of_source, tells_why)
