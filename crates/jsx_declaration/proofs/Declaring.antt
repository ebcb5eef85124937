-- A declaration with which a `for` begins, and what the token behind its first name tells.
use Rattle.std.proofs.Common.{◌≡◌, ℕ, true, refl, sym, ◌∙◌, ap, subst}
use Rattle.std.specs.Prelude.{IsTrue, codes}
use Rattle.jsx_base.specs.Token.{Text, TokenKind, Operator, IdentifierName, Punctuator}
use Rattle.jsx_tree.specs.Signs.{AfterBinding, AfterExpr, Ends, Sign, Tok}
use Rattle.jsx_tree.specs.Kinds.{DeclareWord, Binds, ForBinding, statement, Tree, node, list, Forest, none, part}
use Rattle.jsx_tree.specs.Nonterminals.{Declarators, Pat}
use Rattle.jsx_tree.specs.Grammar.{Part, key, pun, vars}
use Rattle.jsx_tree.specs.Grammar as symbol
use Rattle.jsx_tree.specs.Reading.{Place, Lost, At, forth}
use Rattle.jsx_tree.specs.StaticRules.{Surroundings}
use Rattle.jsx_tree.specs.View.{view_pat, word_of}
use Rattle.jsx_tree.specs.Told.{told_pat}
use Rattle.jsx_tree.specs.declared.tree.Pat.{Pat as Code}
use Rattle.jsx_token.specs.Here.{Here, place_of}
use Rattle.jsx_token.specs.Places.{next_of}
use Rattle.jsx_operand.specs.Spans.{IsPlaced, IsPlacedPast}
use Rattle.jsx_operand.proofs.Placing.{placed_to}
use Rattle.jsx_tree.specs.Walk.{is_found, nothing, one}
use Rattle.jsx_tree.specs.Answers.{Moves, Only, Barred}
use Rattle.jsx_tree.specs.declared.text.DeclareWord as code
use Rattle.jsx_tree.specs.Faults.{Fault}
use Rattle.jsx_tree.proofs.Apart.{never_both}
use Rattle.jsx_tree.proofs.Rows.Bridge.{found_at}
use Rattle.jsx_tree.proofs.Rows.Lists.{begun}
use Rattle.jsx_tree.proofs.Rows.Steps.{bar, no_sign}
use Rattle.jsx_tree.proofs.Rows.Turns.{turn_none}
use Rattle.jsx_token.specs.Growths.{settled}
use Rattle.jsx_token.specs.Semicolons.{in_list}
use Rattle.jsx_operand.specs.SoFar.{so_far}
use Rattle.jsx_declaration.proofs.Statements.{lost_if}
use Rattle.jsx_declaration.specs.Heads.{Declares, Initializes, IsDeclared, IsFirst, IsInitial, IsItems, IsKeys, NoHead, NoHeads, NoInitial, NotDeclared, NotHeaded, NotOver, declare_sign}
use Rattle.jsx_declaration.specs.OpenIn.{any_opens}
use Rattle.jsx_declaration.proofs.Heads.{as_turn, declare_is, declared_head, declares, initial_closed, leads_none, lost_there, no_declared_head, none_initial, not_declared, not_headed, open_headed, some_initial, unended_initial}
use Rattle.jsx_declaration.proofs.Items.{name_ended, no_binding, uninitialized}
use Rattle.jsx_declaration.proofs.Overs.{bound_lost, bound_only, items, keys, unbound}
use Rattle.jsx_declaration.proofs.Stems.{two_words}

-- ---- a name alone, with a word behind it

name_end : (y : Place) → settled y ≡ true → IsTrue (is_found (forth (Ends AfterBinding) y))
name_end Lost s = cc
name_end (At q AfterExpr text) s = refl
name_end (At q _ text) s = cc

end_listed : (y : Place) → settled y ≡ true → in_list (forth (Ends AfterBinding) y) ≡ true
end_listed Lost s = cc
end_listed (At q AfterExpr text) s = refl
end_listed (At q _ text) s = cc

end_same : (k : TokenKind) (t : Text) (y : Place) → settled y ≡ true → forth (Tok Operator k t) (forth (Ends AfterBinding) y) ≡ forth (Tok Operator k t) y
end_same k t Lost s = cc
end_same k t (At q AfterExpr text) s = refl
end_same k t (At q _ text) s = cc

-- no mark stands there
no_mark : (d w : Text) (y : Place) → settled y ≡ true → IsTrue (is_found (forth (Tok Operator IdentifierName w) y)) → forth (Tok Operator Punctuator d) (forth (Ends AfterBinding) y) ≡ Lost
no_mark d w y s f = end_same Punctuator d y s ∙ lost_if (forth (Tok Operator Punctuator d) y) (λ g. never_both Punctuator IdentifierName d w y refl g f)

name_unmarked : {v : Surroundings} {x y : Place} {n : Tree} {e : Fault} (d : DeclareWord) (w : Text) → Only so_far v (Part (Pat Binds)) x (one n) y → IsTrue (is_found (forth (Tok Operator IdentifierName w) y)) → NotHeaded v d x e
name_unmarked {v} {x} {y} {n} d w o f =
    let s = name_ended o in
    let first = uninitialized o (record { is = refl; found = name_end y s }) (record { is = no_mark (codes "=") w y s f }) refl in
    let all = declares none (part _ none) (leads_none none refl) (begun none refl) (begun none refl) first (end_listed y s) (record { same = refl; stuck = record { is = no_mark (codes ",") w y s f } }) refl in
    let no = turn_none (as_turn all.marked) (bar (no_sign (record { is = no_mark (codes ";") w y s f }))) in
    record { no = λ ts z walk k c h. no.no ts z walk h }

-- ---- where the lexer stands

pub only_from : {v : Surroundings} {x : Place} {y z : Here} {n : Tree} → z ≡ y → Only so_far v (Part (Pat Binds)) x (one n) (place_of y) → Only so_far v (Part (Pat Binds)) x (one n) (place_of z)
only_from {v} {x} {n = n} e o = subst (λ h. Only so_far v (Part (Pat Binds)) x (one n) (place_of h)) (sym e) o

pub lost_from : {y z : Here} (s : Sign) → z ≡ y → forth s (place_of z) ≡ Lost → forth s (place_of y) ≡ Lost
lost_from s e l = ap (λ h. forth s (place_of h)) (sym e) ∙ l

pub first_read : {v : Surroundings} {x y y' z : Here} {lo : ℕ} (n p : Code) → y' ≡ y → Only so_far v (Part (Pat Binds)) (place_of x) (one (view_pat n)) (place_of y) → IsPlaced (told_pat n) (view_pat n) x y → lo ≡ next_of x → Initializes v (view_pat n) (place_of y') (view_pat p) (place_of z) → IsPlacedPast lo (told_pat n) (view_pat n) y' (told_pat p) (view_pat p) z
    → IsFirst v p x z
first_read {x = x} n p e o l b i q = record { only = i.on (place_of x) (only_from e o); placed = q.on x b (placed_to e l) }

-- ---- behind the word

-- no semicolon stands where it does
word_initial : {v : Surroundings} {x x1 : Place} {e : Fault} (w : code.DeclareWord) → Moves (declare_sign w) x x1 → NoHead v x e → NoInitial v x e
word_initial {x = x} w m n = none_initial (record { is = lost_if (forth (pun ";") x) (λ g. never_both Punctuator IdentifierName (codes ";") (vars (word_of w)) x refl g (subst (λ s. IsTrue (is_found (forth s x))) (declare_is w) (found_at (sym m.is) m.found))) }) n

word_headed : {v : Surroundings} {x x1 : Place} {e : Fault} (w : code.DeclareWord) → Moves (declare_sign w) x x1 → NotHeaded v (word_of w) x1 e → NoInitial v x e
word_headed w m n = word_initial w m (no_declared_head w m n)

pub bound_keys : {v : Surroundings} {x x1 x2 x3 : Place} {n t : Tree} (w : code.DeclareWord) → Moves (declare_sign w) x x1 → Only so_far v (Part (Pat Binds)) x1 (one n) x2 → Moves (key "in") x2 x3 → t ≡ node (statement (ForBinding (word_of w))) (part n none) → IsKeys v x t x3
bound_keys {x2 = x2} w m o q is =
    let f = found_at (sym q.is) q.found in
    record { keys = bound_only keys w m o q is; items = bound_lost items w m o (λ g. two_words x2 f g); initial = word_headed w m (name_unmarked (word_of w) (codes "in") o f) }

pub bound_items : {v : Surroundings} {x x1 x2 x3 : Place} {n t : Tree} (w : code.DeclareWord) → Moves (declare_sign w) x x1 → Only so_far v (Part (Pat Binds)) x1 (one n) x2 → Moves (key "of") x2 x3 → t ≡ node (statement (ForBinding (word_of w))) (part n none) → IsItems v x t x3
bound_items {x2 = x2} w m o q is =
    let f = found_at (sym q.is) q.found in
    record { items = bound_only items w m o q is; keys = bound_lost keys w m o (λ g. two_words x2 g f); initial = word_headed w m (name_unmarked (word_of w) (codes "of") o f) }

pub no_name : {v : Surroundings} {x x1 : Place} {e : Fault} (w : code.DeclareWord) → Moves (declare_sign w) x x1 → Barred so_far v (Part (Pat Binds)) x1 e → NoHeads v x e
no_name w m b = record { initial = word_headed w m (not_headed (not_declared (word_of w) none (begun none refl) (begun none refl) (no_binding b))); over = unbound w m b }

-- neither `in` nor `of` behind the name
name_over : {v : Surroundings} {x x1 x2 : Place} {n : Tree} {e : Fault} (w : code.DeclareWord) → Moves (declare_sign w) x x1 → Only so_far v (Part (Pat Binds)) x1 (one n) x2 → forth (key "in") x2 ≡ Lost → forth (key "of") x2 ≡ Lost → NotOver v x e
name_over {x2 = x2} w m o a b = record { keys = bound_lost keys w m o (lost_there (key "in") x2 a); items = bound_lost items w m o (lost_there (key "of") x2 b) }

pub no_first : {v : Surroundings} {x x1 x2 : Place} {n : Tree} {e : Fault} (w : code.DeclareWord) → Moves (declare_sign w) x x1 → Only so_far v (Part (Pat Binds)) x1 (one n) x2 → forth (key "in") x2 ≡ Lost → forth (key "of") x2 ≡ Lost → Barred so_far v (Part Declarators) x1 e → NoHeads v x e
no_first w m o a b n = record { initial = word_headed w m (not_headed (not_declared (word_of w) none (begun none refl) (begun none refl) n)); over = name_over w m o a b }

pub none_more : {v : Surroundings} {x x1 x2 : Place} {n : Tree} {e : Fault} (w : code.DeclareWord) → Moves (declare_sign w) x x1 → Only so_far v (Part (Pat Binds)) x1 (one n) x2 → forth (key "in") x2 ≡ Lost → forth (key "of") x2 ≡ Lost → NotDeclared v (word_of w) x1 e → NoHeads v x e
none_more w m o a b n = record { initial = word_headed w m (not_headed n); over = name_over w m o a b }

pub open_more : {v : Surroundings} {x x1 x2 y : Place} {n : Tree} {e : Fault} (ts : Forest) (w : code.DeclareWord) → Moves (declare_sign w) x x1 → Only so_far v (Part (Pat Binds)) x1 (one n) x2 → forth (key "in") x2 ≡ Lost → forth (key "of") x2 ≡ Lost → Declares v x1 (list ts) y → any_opens ts ≡ true → NoHeads v x e
open_more ts w m o a b d h = record { initial = word_headed w m (open_headed ts d h); over = name_over w m o a b }

pub unended_more : {v : Surroundings} {x x1 x2 y : Place} {n t : Tree} {e : Fault} (w : code.DeclareWord) → Moves (declare_sign w) x x1 → Only so_far v (Part (Pat Binds)) x1 (one n) x2 → forth (key "in") x2 ≡ Lost → forth (key "of") x2 ≡ Lost → IsDeclared v (word_of w) x1 t y → Barred so_far v (symbol.Fixed (pun ";")) y e → NoHeads v x e
unended_more w m o a b d n = record { initial = unended_initial (declared_head w m d) n; over = name_over w m o a b }

pub declared_initial : {v : Surroundings} {x x1 x2 y z : Place} {n t : Tree} (w : code.DeclareWord) → Moves (declare_sign w) x x1 → Only so_far v (Part (Pat Binds)) x1 (one n) x2 → forth (key "in") x2 ≡ Lost → forth (key "of") x2 ≡ Lost → IsDeclared v (word_of w) x1 t y → Only so_far v (symbol.Fixed (pun ";")) y nothing z
    → IsInitial v x (list (part t none)) z
declared_initial {t = t} w m o a b d s = record { initial = some_initial (declared_head w m d) s; closed = initial_closed t d.closed; over = name_over w m o a b }
