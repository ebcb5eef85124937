-- An `in` that no bracket encloses: of the trees so far it stands where the code looks.
use Rattle.std.proofs.Common.{◌≡◌, ◌<◌, ◌≤◌, ◌+◌, ℕ, zero, suc, nat_eq, length, get_or, map, arith, Bool, true, false, not, cond, List, [], ◌∷◌, refl, sym, ◌∙◌, ap, subst, Option, Some, None, Box, Global}
use Rattle.std.specs.Prelude.{◌&&◌, ◌||◌}
use Rattle.std.proofs.lemmas.Bool.{eqb-true}
use Rattle.std.proofs.lemmas.List.{get_or-map, length-map}
use Rattle.jsx_base.specs.Token.{NoSubstitution, TemplateHead, TemplateTail, Text, TokenKind}
use Rattle.jsx_tree.specs.Kinds.{Role, Assigns, ArrayPat, ObjectPat, Declarator, Seq, Element, ParenTarget, ClassExpr, Kind, statement, expression, function, jsx, Tree, leaf, node, list, Forest, none, part, PlainTemplate, SubstitutedTemplate, NameLink, IndexLink, CallLink}
use Rattle.jsx_tree.specs.Nonterminals.{Nonterminal, BindingIdent, DotObject, Expr, MemberObject, Name, NewCallee, TagName, Attributes, Declarators, TemplatePart, TemplateOf, ChainLink}
use Rattle.jsx_tree.specs.Grammar.{ListShape, NoTrailing, Spaced, TwoOrMore}
use Rattle.jsx_tree.specs.Form.{Single, Maybe, Several, Position, position, positions, admits, shaped, fits_below, fit_slots, fit_each, is}
use Rattle.jsx_tree.specs.Reading.{Place}
use Rattle.jsx_tree.specs.StaticRules.{Surroundings, is_in_op, open_in, open_ins, any_open}
use Rattle.jsx_tree.specs.Walk.{Items, nil, last, more, sign, tree, absent, present, many, Walk, done, next, around}
use Rattle.jsx_tree.specs.Language.{Whole}
use Rattle.jsx_tree.specs.Grows.{is_aim}
use Rattle.jsx_tree.specs.declared.text.Text.{Text as TreeText}
use Rattle.jsx_tree.specs.declared.text.Word.{Word}
use Rattle.jsx_tree.specs.declared.text.Word.TheVariants as words
use Rattle.jsx_tree.specs.declared.operator.UpdateOp.{UpdateOp}
use Rattle.jsx_tree.specs.declared.operator.UpdateSide.{UpdateSide}
use Rattle.jsx_tree.specs.declared.operator.UpdateSide.TheVariants as side
use Rattle.jsx_tree.specs.declared.tree.Expr.{Expr as CodeExpr}
use Rattle.jsx_tree.specs.declared.tree.Jsx.{Jsx}
use Rattle.jsx_tree.specs.declared.tree.Access.TheOpen.{Jsx-F}
use Rattle.jsx_tree.specs.declared.tree.Access.TheFolds.{fold_out-Jsx}
use Rattle.jsx_tree.specs.View.{forest, shorthand_of, template, view_expr, view_word, Owner, access_step, control_step, expr_step, jsx_step, key_step, link_step, operation_step, pat_step, prop_step, stmt_step, view_jsx}
use Rattle.jsx_tree.specs.ViewOperators.{update_of}
use Rattle.jsx_tree.proofs.Tokens.{and_left, and_right}
use Rattle.jsx_tree.proofs.Views.{views}
use Rattle.jsx_tree.proofs.Apart.{clash}
use Rattle.jsx_tree.proofs.Rows.Firsts.{kind_home}
use Rattle.jsx_tree.proofs.Rows.Stopping.{is_not, or_cases}
use Rattle.jsx_token.specs.Stage.{has_kind, in_stage, in_stages, each_in_stage}
use Rattle.jsx_operand.specs.SoFar.{Staged, so_far}
use Rattle.jsx_operand.specs.Templates.{IsOf, plain, substituted}
use Rattle.jsx_token.specs.Marks.{row_so_far}
use Rattle.jsx_declaration.specs.OpenIn.{spreads, fronts, lasts, opens, any_of, first_of, is_several, opens_listed, opens_whole, some_of, opens_declared, any_opens, second_of}
use Rattle.jsx_operand.proofs.OfSoFar.{of_so_far}
use Rattle.jsx_operand.proofs.Patterns.{pattern_shut}
use Rattle.jsx_token.proofs.Listed.{Listed, kinds, every, of_each}
use Rattle.jsx_operand.proofs.Homes.{Value, literal, made, is_bracket, operand_kind, nowhere, wholes, heads, tails, taken, taken_by, home_of, no_list, AtWhole, single, several, at_whole}
use Rattle.jsx_token.proofs.Lives.{is_lone, lives}
use Rattle.jsx_operand.proofs.Values.{at_one, move}
use Rattle.jsx_operand.proofs.Climbing.{is_link}
use Rattle.jsx_operand.proofs.Standing.{standing}
use Rattle.jsx_operand.proofs.Tags.{template_node}
use Rattle.jsx_declaration.proofs.Items.{bound_kind}

-- ---- the variants of the code's tree

pub template_opens : (b : Bool) (ps : List TreeText) (ts : List Tree) → opens (template b ps ts) ≡ false
template_opens b [] ts = refl
template_opens b (p ∷ []) [] = refl
template_opens b (p ∷ []) (t ∷ ts) = refl
template_opens b (p ∷ q ∷ ps) [] = refl
template_opens b (p ∷ q ∷ ps) (t ∷ ts) = refl

pub word_opens : (w : Word) → opens (view_word w) ≡ false
word_opens words.This = refl
word_opens words.Null = refl
word_opens words.True = refl
word_opens words.False = refl
word_opens words.ImportMeta = refl
word_opens words.NewTarget = refl

jsx_step_opens : (x : Jsx-F Tree Tree Tree Tree Tree Tree Tree (Role → Tree) (Owner → Tree) Tree) → opens (jsx_step x) ≡ false
jsx_step_opens (Jsx-F.Container at None) = refl
jsx_step_opens (Jsx-F.Container at (Some e)) = refl
jsx_step_opens _ = refl

pub jsx_opens : (a : Jsx) → opens (view_jsx a) ≡ false
jsx_opens a = ap opens (fold_out-Jsx Tree Tree Tree Tree Tree Tree Tree (Role → Tree) (Owner → Tree) Tree access_step control_step expr_step jsx_step key_step link_step operation_step pat_step prop_step stmt_step a) ∙ jsx_step_opens _

pub update_opens : (o : UpdateOp) (s : UpdateSide) (t : Tree) → opens (node (expression (update_of o s)) (part t none)) ≡ opens t
update_opens o side.Before t = refl
update_opens o side.After t = refl

pub update_whole : (o : UpdateOp) (s : UpdateSide) (t : Tree) → opens_whole (node (expression (update_of o s)) (part t none)) ≡ opens t
update_whole o side.Before t = refl
update_whole o side.After t = refl

pub shorthand_opens : (r : Role) (a : Tree) (e : Option (Box CodeExpr Global)) → opens (shorthand_of view_expr r a e) ≡ false
shorthand_opens r a None = refl
shorthand_opens r a (Some e) = refl

pub ruleset opening = (views, template_opens, word_opens, jsx_opens, update_opens, update_whole, shorthand_opens)

-- ---- along the places of a row

abbrev tail_of : List Position → List Position
tail_of [] = []
tail_of (s ∷ ss) = ss

or_false : (a : Bool) → (a || false) ≡ a
or_false true = refl
or_false false = refl

record Opened (t : Tree) : Type 0 where
  on : (c : Nonterminal) → is_lone c ≡ true → is c t ≡ true → in_stage c t ≡ true → opens t ≡ open_in t

data AllOpened : Forest → Type 0 where
  nil_opened : AllOpened none
  cons_opened : {t : Tree} {ts : Forest} → Opened t → AllOpened ts → AllOpened (part t ts)

head_opened : {t : Tree} {ts : Forest} → AllOpened (part t ts) → Opened t
head_opened (cons_opened o a) = o

rest_opened : {t : Tree} {ts : Forest} → AllOpened (part t ts) → AllOpened ts
rest_opened (cons_opened o a) = a

-- each part stands outside of brackets, as an operand
abbrev all_plain : List Position → Bool
all_plain [] = true
all_plain (position Single c g false a ∷ ss) = is_lone c && all_plain ss
all_plain (s ∷ ss) = false

-- each stands in brackets, or is a name, perhaps absent, or a template's first or last piece
abbrev all_shut : List Position → Bool
all_shut [] = true
all_shut (position f c g true a ∷ ss) = all_shut ss
all_shut (position Single Name g false a ∷ ss) = all_shut ss
all_shut (position Maybe BindingIdent g false a ∷ ss) = all_shut ss
all_shut (position Single BindingIdent g false a ∷ ss) = all_shut ss
all_shut (position Single (TemplatePart NoSubstitution) g false a ∷ ss) = all_shut ss
all_shut (position Single (TemplatePart TemplateHead) g false a ∷ ss) = all_shut ss
all_shut (position Single (TemplatePart TemplateTail) g false a ∷ ss) = all_shut ss
all_shut (s ∷ ss) = false

-- the template of a tag stands there, alone
abbrev sole_template : List Position → Bool
sole_template (position Single TemplateOf g false a ∷ []) = true
sole_template ss = false

-- the links of a chain
abbrev sole_links : List Position → Bool
sole_links (position (Several m) ChainLink g false a ∷ []) = true
sole_links ss = false

abbrev first_plain : List Position → Bool
first_plain (position Single c g false a ∷ ss) = is_lone c && (all_shut ss || (sole_template ss || sole_links ss))
first_plain ss = false

abbrev is_element : Kind → Bool
is_element (jsx Element) = true
is_element k = false

abbrev is_class : Kind → Bool
is_class (function ClassExpr) = true
is_class k = false

-- the last stands outside of brackets, as a value; the parameters, or the one name, don't count
abbrev last_plain : List Position → Bool
last_plain (position f c g true a ∷ position Single d h false b ∷ []) = is_lone d
last_plain (position Single BindingIdent g false a ∷ position Single d h false b ∷ []) = is_lone d
last_plain ss = false

abbrev placed_so : Kind → Bool
placed_so k = cond (spreads k) (all_plain (positions k)) (cond (fronts k) (not (is_in_op k) && first_plain (positions k)) (cond (lasts k) (not (is_in_op k) && last_plain (positions k)) (not (is_in_op k) && (all_shut (positions k) || (is_element k || is_class k)))))

all_placed_so : every placed_so kinds ≡ true
all_placed_so = refl

first_two : (a b d : Bool) → (a && (b && d)) ≡ true → (a && b) ≡ true
first_two true true d h = refl
first_two true false d h = cc
first_two false b d h = cc

-- a part and the rest of a row
fit_here : (c : Nonterminal) (t : Tree) (ss : List Position) (ts : Forest) → (shaped Single c t && (fits_below c t && fit_slots ss ts)) ≡ true → is c t ≡ true
fit_here c t ss ts h = first_two (admits c t) (fits_below c t) (fit_slots ss ts) h

fit_rest : (f : _) (c : Nonterminal) (t : Tree) (ss : List Position) (ts : Forest) → (shaped f c t && (fits_below c t && fit_slots ss ts)) ≡ true → fit_slots ss ts ≡ true
fit_rest f c t ss ts h = and_right (fits_below c t) _ (and_right (shaped f c t) _ h)

here_opened : (c : Nonterminal) (t : Tree) (ss : List Position) (ts : Forest) → Opened t → is_lone c ≡ true → (shaped Single c t && (fits_below c t && fit_slots ss ts)) ≡ true → (in_stage c t && in_stages ss ts) ≡ true → opens t ≡ open_in t
here_opened c t ss ts o k f s = o.on c k (fit_here c t ss ts f) (and_left (in_stage c t) _ s)

plain_same : (ss : List Position) (ts : Forest) → all_plain ss ≡ true → AllOpened ts → fit_slots ss ts ≡ true → in_stages ss ts ≡ true → any_of ts ≡ open_ins ss ts
plain_same [] none p a f s = refl
plain_same [] (part t ts) p a f s = cc
plain_same (position Single c g false d ∷ ss) none p a f s = cc
plain_same (position Single c g false d ∷ []) (part t none) p a f s = here_opened c t [] none (head_opened a) (and_left (is_lone c) _ p) f s ∙ sym (or_false (open_in t))
plain_same (position Single c g false d ∷ []) (part t (part u us)) p a f s = let bad : false ≡ true = fit_rest Single c t [] (part u us) f in cc
plain_same (position Single c g false d ∷ (e ∷ ss)) (part t none) p a f s = let bad : false ≡ true = fit_rest Single c t (e ∷ ss) none f in cc
plain_same (position Single c g false d ∷ (e ∷ ss)) (part t (part u us)) p a f s =
    let here = here_opened c t (e ∷ ss) (part u us) (head_opened a) (and_left (is_lone c) _ p) f s in
    let rest = plain_same (e ∷ ss) (part u us) (and_right (is_lone c) _ p) (rest_opened a) (fit_rest Single c t (e ∷ ss) (part u us) f) (and_right (in_stage c t) _ s) in
    (λ i. here i || rest i)
plain_same _ ts p a f s = cc

name_shut : (t : Tree) → is Name t ≡ true → in_stage Name t ≡ true → open_in t ≡ false
name_shut (leaf k r) i s = refl
name_shut (node k ts) i s = absurd (nowhere Name refl refl refl refl refl refl refl (taken k (and_left (has_kind k) _ s)) (and_left (admits Name (node k ts)) _ i))
name_shut (list ts) i s = cc

whole_shut : (t : Tree) → is (TemplatePart NoSubstitution) t ≡ true → in_stage (TemplatePart NoSubstitution) t ≡ true → open_in t ≡ false
whole_shut (leaf k r) i s = refl
whole_shut (node k ts) i s = absurd (wholes.node k ts (taken k (and_left (has_kind k) _ s)) (and_left (admits (TemplatePart NoSubstitution) (node k ts)) _ i))
whole_shut (list ts) i s = cc

head_shut : (t : Tree) → is (TemplatePart TemplateHead) t ≡ true → in_stage (TemplatePart TemplateHead) t ≡ true → open_in t ≡ false
head_shut (leaf k r) i s = refl
head_shut (node k ts) i s = absurd (heads.node k ts (taken k (and_left (has_kind k) _ s)) (and_left (admits (TemplatePart TemplateHead) (node k ts)) _ i))
head_shut (list ts) i s = cc

tail_shut : (t : Tree) → is (TemplatePart TemplateTail) t ≡ true → in_stage (TemplatePart TemplateTail) t ≡ true → open_in t ≡ false
tail_shut (leaf k r) i s = refl
tail_shut (node k ts) i s = absurd (tails.node k ts (taken k (and_left (has_kind k) _ s)) (and_left (admits (TemplatePart TemplateTail) (node k ts)) _ i))
tail_shut (list ts) i s = cc

bound_name : (t : Tree) → is BindingIdent t ≡ true → in_stage BindingIdent t ≡ true → open_in t ≡ false
bound_name (leaf k r) i s = refl
bound_name (node k ts) i s = absurd (nowhere BindingIdent refl refl refl refl refl refl refl (taken k (and_left (has_kind k) _ s)) (and_left (admits BindingIdent (node k ts)) _ i))
bound_name (list ts) i s = cc

each_bound : (ts : Forest) → fit_each BindingIdent ts ≡ true → each_in_stage BindingIdent ts ≡ true → any_open ts ≡ false
each_bound none f s = refl
each_bound (part t ts) f s =
    ap (λ b. b || any_open ts) (bound_name t (first_two (admits BindingIdent t) (fits_below BindingIdent t) (fit_each BindingIdent ts) f) (and_left (in_stage BindingIdent t) _ s))
    ∙ each_bound ts (and_right (fits_below BindingIdent t) _ (and_right (admits BindingIdent t) _ f)) (and_right (in_stage BindingIdent t) _ s)

-- a name, or none
maybe_bound : (t : Tree) → shaped Maybe BindingIdent t ≡ true → fits_below BindingIdent t ≡ true → in_stage BindingIdent t ≡ true → open_in t ≡ false
maybe_bound (leaf k r) h f s = refl
maybe_bound (node k ts) h f s = cc
maybe_bound (list ts) h f s = each_bound ts f s

maybe_here : (t : Tree) (ss : List Position) (ts : Forest) → (shaped Maybe BindingIdent t && (fits_below BindingIdent t && fit_slots ss ts)) ≡ true → in_stage BindingIdent t ≡ true → open_in t ≡ false
maybe_here t ss ts f s = maybe_bound t (and_left (shaped Maybe BindingIdent t) _ f) (and_left (fits_below BindingIdent t) _ (and_right (shaped Maybe BindingIdent t) _ f)) s

shut_same : (ss : List Position) (ts : Forest) → all_shut ss ≡ true → fit_slots ss ts ≡ true → in_stages ss ts ≡ true → open_ins ss ts ≡ false
shut_same [] ts p f s = refl
shut_same (q ∷ ss) none p f s = cc
shut_same (position h c g true d ∷ ss) (part t ts) p f s = shut_same ss ts p (fit_rest h c t ss ts f) (and_right (in_stage c t) _ s)
shut_same (position Single Name g false d ∷ ss) (part t ts) p f s = ap (λ b. b || open_ins ss ts) (name_shut t (fit_here Name t ss ts f) (and_left (in_stage Name t) _ s)) ∙ shut_same ss ts p (fit_rest Single Name t ss ts f) (and_right (in_stage Name t) _ s)
shut_same (position Maybe BindingIdent g false d ∷ ss) (part t ts) p f s = ap (λ b. b || open_ins ss ts) (maybe_here t ss ts f (and_left (in_stage BindingIdent t) _ s)) ∙ shut_same ss ts p (fit_rest Maybe BindingIdent t ss ts f) (and_right (in_stage BindingIdent t) _ s)
shut_same (position Single BindingIdent g false d ∷ ss) (part t ts) p f s = ap (λ b. b || open_ins ss ts) (bound_name t (fit_here BindingIdent t ss ts f) (and_left (in_stage BindingIdent t) _ s)) ∙ shut_same ss ts p (fit_rest Single BindingIdent t ss ts f) (and_right (in_stage BindingIdent t) _ s)
shut_same (position Single (TemplatePart NoSubstitution) g false d ∷ ss) (part t ts) p f s = ap (λ b. b || open_ins ss ts) (whole_shut t (fit_here (TemplatePart NoSubstitution) t ss ts f) (and_left (in_stage (TemplatePart NoSubstitution) t) _ s)) ∙ shut_same ss ts p (fit_rest Single (TemplatePart NoSubstitution) t ss ts f) (and_right (in_stage (TemplatePart NoSubstitution) t) _ s)
shut_same (position Single (TemplatePart TemplateHead) g false d ∷ ss) (part t ts) p f s = ap (λ b. b || open_ins ss ts) (head_shut t (fit_here (TemplatePart TemplateHead) t ss ts f) (and_left (in_stage (TemplatePart TemplateHead) t) _ s)) ∙ shut_same ss ts p (fit_rest Single (TemplatePart TemplateHead) t ss ts f) (and_right (in_stage (TemplatePart TemplateHead) t) _ s)
shut_same (position Single (TemplatePart TemplateTail) g false d ∷ ss) (part t ts) p f s = ap (λ b. b || open_ins ss ts) (tail_shut t (fit_here (TemplatePart TemplateTail) t ss ts f) (and_left (in_stage (TemplatePart TemplateTail) t) _ s)) ∙ shut_same ss ts p (fit_rest Single (TemplatePart TemplateTail) t ss ts f) (and_right (in_stage (TemplatePart TemplateTail) t) _ s)
shut_same (q ∷ ss) (part t ts) p f s = cc

-- in a tag's template all stands in brackets
of_shut : {k : Kind} (ts : Forest) → IsOf true k → fit_slots (positions k) ts ≡ true → in_stages (positions k) ts ≡ true → open_in (node k ts) ≡ false
of_shut ts plain f s = shut_same (positions (expression (PlainTemplate true))) ts refl f s
of_shut ts substituted f s = shut_same (positions (expression (SubstitutedTemplate true))) ts refl f s

template_shut : (t : Tree) → is TemplateOf t ≡ true → in_stage TemplateOf t ≡ true → open_in t ≡ false
template_shut (leaf k r) i s = refl
template_shut (node k ts) i s = of_shut ts (template_node k ts (taken k (and_left (has_kind k) _ s)) (and_left (admits TemplateOf (node k ts)) _ i)) (and_right (admits TemplateOf (node k ts)) _ i) (and_right (has_kind k) _ s)
template_shut (list ts) i s = cc

sole_shut : (ss : List Position) (ts : Forest) → sole_template ss ≡ true → fit_slots ss ts ≡ true → in_stages ss ts ≡ true → open_ins ss ts ≡ false
sole_shut (position Single TemplateOf g false d ∷ []) none p f s = cc
sole_shut (position Single TemplateOf g false d ∷ []) (part t none) p f s = ap (λ b. b || false) (template_shut t (fit_here TemplateOf t [] none f) (and_left (in_stage TemplateOf t) _ s))
sole_shut (position Single TemplateOf g false d ∷ []) (part t (part u us)) p f s = let bad : false ≡ true = fit_rest Single TemplateOf t [] (part u us) f in cc
sole_shut _ ts p f s = cc

-- so it does in each link
link_node : (k : Kind) (ts : Forest) → is_link k ≡ true → fit_slots (positions k) ts ≡ true → in_stages (positions k) ts ≡ true → open_in (node k ts) ≡ false
link_node (expression (NameLink true)) ts h f s = shut_same (positions (expression (NameLink true))) ts refl f s
link_node (expression (NameLink false)) ts h f s = shut_same (positions (expression (NameLink false))) ts refl f s
link_node (expression (IndexLink true)) ts h f s = shut_same (positions (expression (IndexLink true))) ts refl f s
link_node (expression (IndexLink false)) ts h f s = shut_same (positions (expression (IndexLink false))) ts refl f s
link_node (expression (CallLink true)) ts h f s = shut_same (positions (expression (CallLink true))) ts refl f s
link_node (expression (CallLink false)) ts h f s = shut_same (positions (expression (CallLink false))) ts refl f s
link_node _ ts h f s = cc

link_shut : (t : Tree) → is ChainLink t ≡ true → in_stage ChainLink t ≡ true → open_in t ≡ false
link_shut (leaf k r) i s = refl
link_shut (node k ts) i s = link_node k ts (standing ChainLink is_link refl k (taken k (and_left (has_kind k) _ s)) (and_left (admits ChainLink (node k ts)) _ i)) (and_right (admits ChainLink (node k ts)) _ i) (and_right (has_kind k) _ s)
link_shut (list ts) i s = cc

each_shut : (ts : Forest) → fit_each ChainLink ts ≡ true → each_in_stage ChainLink ts ≡ true → any_open ts ≡ false
each_shut none f s = refl
each_shut (part t ts) f s =
    ap (λ b. b || any_open ts) (link_shut t (first_two (admits ChainLink t) (fits_below ChainLink t) (fit_each ChainLink ts) f) (and_left (in_stage ChainLink t) _ s))
    ∙ each_shut ts (and_right (fits_below ChainLink t) _ (and_right (admits ChainLink t) _ f)) (and_right (in_stage ChainLink t) _ s)

link_list : (m : ListShape) (t : Tree) → shaped (Several m) ChainLink t ≡ true → fits_below ChainLink t ≡ true → in_stage ChainLink t ≡ true → open_in t ≡ false
link_list m (leaf k r) h f s = refl
link_list m (node k ts) h f s = cc
link_list m (list ts) h f s = each_shut ts f s

links_shut : (ss : List Position) (ts : Forest) → sole_links ss ≡ true → fit_slots ss ts ≡ true → in_stages ss ts ≡ true → open_ins ss ts ≡ false
links_shut (position (Several m) ChainLink g false d ∷ []) none p f s = cc
links_shut (position (Several m) ChainLink g false d ∷ []) (part t none) p f s =
    let below = and_right (shaped (Several m) ChainLink t) _ f in
    ap (λ b. b || false) (link_list m t (and_left (shaped (Several m) ChainLink t) _ f) (and_left (fits_below ChainLink t) _ below) (and_left (in_stage ChainLink t) _ s))
links_shut (position (Several m) ChainLink g false d ∷ []) (part t (part u us)) p f s = let bad : false ≡ true = fit_rest (Several m) ChainLink t [] (part u us) f in cc
links_shut _ ts p f s = cc

first_same : (ss : List Position) (ts : Forest) → first_plain ss ≡ true → AllOpened ts → fit_slots ss ts ≡ true → in_stages ss ts ≡ true → first_of ts ≡ open_ins ss ts
first_same (position Single c g false d ∷ ss) none p a f s = cc
first_same (position Single c g false d ∷ ss) (part t ts) p a f s =
    let here = here_opened c t ss ts (head_opened a) (and_left (is_lone c) _ p) f s in
    let fit = fit_rest Single c t ss ts f in
    let staged = and_right (in_stage c t) _ s in
    let rest = or_cases (all_shut ss) _ (and_right (is_lone c) _ p) (λ h. shut_same ss ts h fit staged) (λ o. or_cases (sole_template ss) (sole_links ss) o (λ h. sole_shut ss ts h fit staged) (λ h. links_shut ss ts h fit staged)) in
    sym ((λ i. sym here i || rest i) ∙ or_false (opens t))
first_same _ ts p a f s = cc

-- an element has no attributes so far
no_attribute : (t : Tree) → is Attributes t ≡ true → in_stage Attributes t ≡ true → ⊥
no_attribute (leaf k r) i s = cc
no_attribute (node k ts) i s = nowhere Attributes refl refl refl refl refl refl refl (taken k (and_left (has_kind k) _ s)) (and_left (admits Attributes (node k ts)) _ i)
no_attribute (list ts) i s = cc

tag_shut : (t : Tree) → is TagName t ≡ true → in_stage TagName t ≡ true → open_in t ≡ false
tag_shut (leaf k r) i s = refl
tag_shut (node k ts) i s = absurd (nowhere TagName refl refl refl refl refl refl refl (taken k (and_left (has_kind k) _ s)) (and_left (admits TagName (node k ts)) _ i))
tag_shut (list ts) i s = cc

attributes_shut : (ts : Forest) → fit_each Attributes ts ≡ true → each_in_stage Attributes ts ≡ true → any_open ts ≡ false
attributes_shut none f s = refl
attributes_shut (part t ts) f s = absurd (no_attribute t (first_two (admits Attributes t) (fits_below Attributes t) (fit_each Attributes ts) f) (and_left (in_stage Attributes t) _ s))

attribute_list : (t : Tree) → shaped (Several Spaced) Attributes t ≡ true → fits_below Attributes t ≡ true → in_stage Attributes t ≡ true → open_in t ≡ false
attribute_list (leaf k r) h f s = refl
attribute_list (node k ts) h f s = cc
attribute_list (list ts) h f s = attributes_shut ts f s

element_shut : (ts : Forest) → fit_slots (positions (jsx Element)) ts ≡ true → in_stages (positions (jsx Element)) ts ≡ true → open_ins (positions (jsx Element)) ts ≡ false
element_shut none f s = cc
element_shut (part t none) f s = let bad : false ≡ true = fit_rest Single TagName t (tail_of (positions (jsx Element))) none f in cc
element_shut (part t (part u us)) f s =
    let rest = fit_rest Single TagName t (tail_of (positions (jsx Element))) (part u us) f in
    let staged = and_right (in_stage TagName t) _ s in
    let tag = tag_shut t (fit_here TagName t (tail_of (positions (jsx Element))) (part u us) f) (and_left (in_stage TagName t) _ s) in
    let attributes = attribute_list u (and_left (shaped (Several Spaced) Attributes u) _ rest) (and_left (fits_below Attributes u) _ (and_right (shaped (Several Spaced) Attributes u) _ rest)) (and_left (in_stage Attributes u) _ staged) in
    (λ i. tag i || (attributes i || false))

element_kind : (k : Kind) → is_element k ≡ true → k ≡ jsx Element
element_kind (jsx Element) e = refl
element_kind _ e = cc

-- ---- at the level of members no `in` stands outside of brackets

abbrev is_high : Nonterminal → Bool
is_high (Expr n) = nat_eq n 17
is_high MemberObject = true
is_high DotObject = true
is_high NewCallee = true
is_high c = false

high_lone : (c : Nonterminal) → is_high c ≡ true → is_lone c ≡ true
high_lone (Expr n) h = subst (λ m. is_lone (Expr m) ≡ true) (sym (eqb-true n 17 h)) refl
high_lone MemberObject h = refl
high_lone DotObject h = refl
high_lone NewCallee h = refl
high_lone _ h = cc

-- what stands there begins with a part at that level, or has none outside of brackets; a class may have one, behind `extends`
abbrev high_front : List Position → Bool
high_front (position Single c g false a ∷ ss) = is_high c && (all_shut ss || (sole_template ss || sole_links ss))
high_front ss = false

abbrev high_well : Nonterminal → Kind → Bool
high_well c k = not (lives c k) || (not (is_in_op k) && ((all_shut (positions k) || (is_element k || is_class k)) || high_front (positions k)))

all_high_well : (c : Nonterminal) → is_high c ≡ true → every (high_well c) kinds ≡ true
all_high_well (Expr n) h = subst (λ m. every (high_well (Expr m)) kinds ≡ true) (sym (eqb-true n 17 h)) refl
all_high_well MemberObject h = refl
all_high_well DotObject h = refl
all_high_well NewCallee h = refl
all_high_well _ h = cc

-- of each part and of those of its lists
data AllHigh : Forest → Type 0 where
  none_high : AllHigh none
  leaf_high : {k : TokenKind} {r : Text} {ts : Forest} → AllHigh ts → AllHigh (part (leaf k r) ts)
  node_high : {k : Kind} {us ts : Forest} → ((c : Nonterminal) → is_high c ≡ true → is c (node k us) ≡ true → in_stage c (node k us) ≡ true → open_in (node k us) ≡ false) → AllHigh ts → AllHigh (part (node k us) ts)
  list_high : {us ts : Forest} → AllHigh us → AllHigh ts → AllHigh (part (list us) ts)

rest_high : {t : Tree} {ts : Forest} → AllHigh (part t ts) → AllHigh ts
rest_high (leaf_high a) = a
rest_high (node_high f a) = a
rest_high (list_high b a) = a

one_high : (c : Nonterminal) (t : Tree) {ts : Forest} → AllHigh (part t ts) → is_high c ≡ true → is c t ≡ true → in_stage c t ≡ true → open_in t ≡ false
one_high c (leaf k r) a h i s = refl
one_high c (node k us) (node_high f a) h i s = f c h i s
one_high c (list us) a h i s = cc

each_high : (ts : Forest) → AllHigh ts → fit_each (Expr 17) ts ≡ true → each_in_stage (Expr 17) ts ≡ true → any_open ts ≡ false
each_high none a f s = refl
each_high (part t ts) a f s =
    ap (λ b. b || any_open ts) (one_high (Expr 17) t a refl (first_two (admits (Expr 17) t) (fits_below (Expr 17) t) (fit_each (Expr 17) ts) f) (and_left (in_stage (Expr 17) t) _ s))
    ∙ each_high ts (rest_high a) (and_right (fits_below (Expr 17) t) _ (and_right (admits (Expr 17) t) _ f)) (and_right (in_stage (Expr 17) t) _ s)

-- what is extended, or nothing
maybe_high : (t : Tree) {ts : Forest} → AllHigh (part t ts) → shaped Maybe (Expr 17) t ≡ true → fits_below (Expr 17) t ≡ true → in_stage (Expr 17) t ≡ true → open_in t ≡ false
maybe_high (leaf k r) a h f s = refl
maybe_high (node k us) a h f s = cc
maybe_high (list us) (list_high b a) h f s = each_high us b f s

class_shut : (ts : Forest) → AllHigh ts → fit_slots (positions (function ClassExpr)) ts ≡ true → in_stages (positions (function ClassExpr)) ts ≡ true → open_ins (positions (function ClassExpr)) ts ≡ false
class_shut none a f s = cc
class_shut (part n none) a f s = let bad : false ≡ true = fit_rest Maybe BindingIdent n (tail_of (positions (function ClassExpr))) none f in cc
class_shut (part n (part h ts)) a f s =
    let behind = tail_of (tail_of (positions (function ClassExpr))) in
    let rest = fit_rest Maybe BindingIdent n (tail_of (positions (function ClassExpr))) (part h ts) f in
    let staged = and_right (in_stage BindingIdent n) _ s in
    let name = maybe_here n (tail_of (positions (function ClassExpr))) (part h ts) f (and_left (in_stage BindingIdent n) _ s) in
    let extended = maybe_high h (rest_high a) (and_left (shaped Maybe (Expr 17) h) _ rest) (and_left (fits_below (Expr 17) h) _ (and_right (shaped Maybe (Expr 17) h) _ rest)) (and_left (in_stage (Expr 17) h) _ staged) in
    let members = shut_same behind ts refl (fit_rest Maybe (Expr 17) h behind ts rest) (and_right (in_stage (Expr 17) h) _ staged) in
    (λ i. name i || (extended i || members i))

class_kind : (k : Kind) → is_class k ≡ true → k ≡ function ClassExpr
class_kind (function ClassExpr) e = refl
class_kind _ e = cc

kind_shut : (k : Kind) (ts : Forest) → AllHigh ts → fit_slots (positions k) ts ≡ true → in_stages (positions k) ts ≡ true → (all_shut (positions k) || (is_element k || is_class k)) ≡ true → open_ins (positions k) ts ≡ false
kind_shut k ts a f s h =
    or_cases (all_shut (positions k)) _ h
    (λ p. shut_same (positions k) ts p f s)
    (λ q. or_cases (is_element k) (is_class k) q
    (λ e. subst (λ j. fit_slots (positions j) ts ≡ true → in_stages (positions j) ts ≡ true → open_ins (positions j) ts ≡ false) (sym (element_kind k e)) (element_shut ts) f s)
    (λ e. subst (λ j. fit_slots (positions j) ts ≡ true → in_stages (positions j) ts ≡ true → open_ins (positions j) ts ≡ false) (sym (class_kind k e)) (class_shut ts a) f s))

high_first : (ss : List Position) (ts : Forest) → high_front ss ≡ true → AllHigh ts → fit_slots ss ts ≡ true → in_stages ss ts ≡ true → open_ins ss ts ≡ false
high_first (position Single c g false d ∷ ss) none p a f s = cc
high_first (position Single c g false d ∷ ss) (part t ts) p a f s =
    let here = one_high c t a (and_left (is_high c) _ p) (fit_here c t ss ts f) (and_left (in_stage c t) _ s) in
    let fit = fit_rest Single c t ss ts f in
    let staged = and_right (in_stage c t) _ s in
    let rest = or_cases (all_shut ss) _ (and_right (is_high c) _ p) (λ h. shut_same ss ts h fit staged) (λ o. or_cases (sole_template ss) (sole_links ss) o (λ h. sole_shut ss ts h fit staged) (λ h. links_shut ss ts h fit staged)) in
    (λ i. here i || rest i)
high_first _ ts p a f s = cc

node_listed : {k : Kind} {ts : Forest} → Value (node k ts) → Listed k
node_listed (made l) = l

high_aim : (k : Kind) (ts : Forest) → is_aim (node k ts) ≡ true → fit_slots (positions k) ts ≡ true → in_stages (positions k) ts ≡ true → open_in (node k ts) ≡ false
high_aim (function ParenTarget) ts e f s = shut_same (positions (function ParenTarget)) ts refl f s
high_aim _ ts e f s = cc

-- nor does one that a pattern's brackets enclose
high_bracket : (k : Kind) (ts : Forest) → is_bracket k ≡ true → fit_slots (positions k) ts ≡ true → in_stages (positions k) ts ≡ true → open_in (node k ts) ≡ false
high_bracket (function (ArrayPat Assigns)) ts e f s = shut_same (positions (function (ArrayPat Assigns))) ts refl f s
high_bracket (function (ObjectPat Assigns)) ts e f s = shut_same (positions (function (ObjectPat Assigns))) ts refl f s
high_bracket _ ts e f s = cc

high_kind : (k : Kind) (ts : Forest) → AllHigh ts → (c : Nonterminal) → is_high c ≡ true → is c (node k ts) ≡ true → in_stage c (node k ts) ≡ true → open_in (node k ts) ≡ false
high_kind k ts a c h i s = by (is_aim (node k ts)) (is_bracket k) refl refl
  where
    fit : fit_slots (positions k) ts ≡ true
    fit = and_right (admits c (node k ts)) _ i

    staged : in_stages (positions k) ts ≡ true
    staged = and_right (has_kind k) _ s

    home : admits c (node k ts) ≡ true
    home = and_left (admits c (node k ts)) _ i

    by : (b d : Bool) → is_aim (node k ts) ≡ b → is_bracket k ≡ d → open_in (node k ts) ≡ false
    by true d e n = high_aim k ts e fit staged
    by false true e n = high_bracket k ts n fit staged
    by false false e n =
        let l = node_listed (operand_kind c {ts = ts} (high_lone c h) e n (taken k (and_left (has_kind k) _ s)) home) in
        let w = or_cases (not (lives c k)) _ (of_each (high_well c) (all_high_well c h) k l) (λ n. absurd (clash (lives c k) (kind_home c k ts home) (is_not _ n))) (λ p. p) in
        ap (λ b. b || open_ins (positions k) ts) (is_not _ (and_left (not (is_in_op k)) _ w))
        ∙ or_cases (all_shut (positions k) || (is_element k || is_class k)) (high_front (positions k)) (and_right (not (is_in_op k)) _ w) (kind_shut k ts a fit staged) (λ p. high_first (positions k) ts p a fit staged)

all_high : (ts : Forest) → AllHigh ts
all_high none = none_high
all_high (part (leaf k r) ts) = leaf_high (all_high ts)
all_high (part (node k us) ts) = node_high (high_kind k us (all_high us)) (all_high ts)
all_high (part (list us) ts) = list_high (all_high us) (all_high ts)

-- ---- a tree

last_same : (ss : List Position) (ts : Forest) → last_plain ss ≡ true → AllOpened ts → fit_slots ss ts ≡ true → in_stages ss ts ≡ true → second_of ts ≡ open_ins ss ts
last_same (position f c g true a ∷ position Single d h false b ∷ []) none p o i s = cc
last_same (position f c g true a ∷ position Single d h false b ∷ []) (part t none) p o i s = let bad : false ≡ true = fit_rest f c t (position Single d h false b ∷ []) none i in cc
last_same (position f c g true a ∷ position Single d h false b ∷ []) (part t (part u none)) p o i s =
    here_opened d u [] none (head_opened (rest_opened o)) p (fit_rest f c t (position Single d h false b ∷ []) (part u none) i) (and_right (in_stage c t) _ s) ∙ sym (or_false (open_in u))
last_same (position f c g true a ∷ position Single d h false b ∷ []) (part t (part u (part w ws))) p o i s =
    let bad : false ≡ true = fit_rest Single d u [] (part w ws) (fit_rest f c t (position Single d h false b ∷ []) (part u (part w ws)) i) in
    cc
last_same (position Single BindingIdent g false a ∷ position Single d h false b ∷ []) none p o i s = cc
last_same (position Single BindingIdent g false a ∷ position Single d h false b ∷ []) (part t none) p o i s = let bad : false ≡ true = fit_rest Single BindingIdent t (position Single d h false b ∷ []) none i in cc
last_same (position Single BindingIdent g false a ∷ position Single d h false b ∷ []) (part t (part u none)) p o i s =
    here_opened d u [] none (head_opened (rest_opened o)) p (fit_rest Single BindingIdent t (position Single d h false b ∷ []) (part u none) i) (and_right (in_stage BindingIdent t) _ s)
    ∙ sym (ap (λ e. e || (open_in u || false)) (bound_name t (fit_here BindingIdent t (position Single d h false b ∷ []) (part u none) i) (and_left (in_stage BindingIdent t) _ s)) ∙ or_false (open_in u))
last_same (position Single BindingIdent g false a ∷ position Single d h false b ∷ []) (part t (part u (part w ws))) p o i s =
    let bad : false ≡ true = fit_rest Single d u [] (part w ws) (fit_rest Single BindingIdent t (position Single d h false b ∷ []) (part u (part w ws)) i) in
    cc
last_same _ ts p o i s = cc

kind_opened : (k : Kind) (cs : Forest) → Listed k → AllOpened cs → fit_slots (positions k) cs ≡ true → in_stages (positions k) cs ≡ true → opens (node k cs) ≡ open_in (node k cs)
kind_opened k cs l a f s = by (spreads k) (fronts k) (lasts k) (of_each placed_so all_placed_so k l)
  where
    shut : (all_shut (positions k) || (is_element k || is_class k)) ≡ true → open_ins (positions k) cs ≡ false
    shut h = kind_shut k cs (all_high cs) f s h

    by : (b d e : Bool) → cond b (all_plain (positions k)) (cond d (not (is_in_op k) && first_plain (positions k)) (cond e (not (is_in_op k) && last_plain (positions k)) (not (is_in_op k) && (all_shut (positions k) || (is_element k || is_class k))))) ≡ true → cond b (is_in_op k || any_of cs) (cond d (first_of cs) (cond e (second_of cs) false)) ≡ (is_in_op k || open_ins (positions k) cs)
    by true d e h = ap (λ b. is_in_op k || b) (plain_same (positions k) cs h a f s)
    by false true e h = first_same (positions k) cs (and_right (not (is_in_op k)) _ h) a f s ∙ sym (ap (λ b. b || open_ins (positions k) cs) (is_not _ (and_left (not (is_in_op k)) _ h)))
    by false false true h = last_same (positions k) cs (and_right (not (is_in_op k)) _ h) a f s ∙ sym (ap (λ b. b || open_ins (positions k) cs) (is_not _ (and_left (not (is_in_op k)) _ h)))
    by false false false h = sym (ap (λ b. b || open_ins (positions k) cs) (is_not _ (and_left (not (is_in_op k)) _ h)) ∙ shut (and_right (not (is_in_op k)) _ h))

-- in a target's parentheses all stands in brackets
aim_opened : (k : Kind) (ts : Forest) → is_aim (node k ts) ≡ true → fit_slots (positions k) ts ≡ true → in_stages (positions k) ts ≡ true → opens (node k ts) ≡ open_in (node k ts)
aim_opened (function ParenTarget) ts e f s = sym (shut_same (positions (function ParenTarget)) ts refl f s)
aim_opened _ ts e f s = cc

-- and in those of a pattern
bracket_opened : (k : Kind) (ts : Forest) → is_bracket k ≡ true → fit_slots (positions k) ts ≡ true → in_stages (positions k) ts ≡ true → opens (node k ts) ≡ open_in (node k ts)
bracket_opened (function (ArrayPat Assigns)) ts e f s = sym (shut_same (positions (function (ArrayPat Assigns))) ts refl f s)
bracket_opened (function (ObjectPat Assigns)) ts e f s = sym (shut_same (positions (function (ObjectPat Assigns))) ts refl f s)
bracket_opened _ ts e f s = cc

node_opened : (k : Kind) (ts : Forest) → AllOpened ts → Opened (node k ts)
node_opened k ts a = record { on = λ c o i s. by c o i s (is_aim (node k ts)) (is_bracket k) refl refl }
  where
    by : (c : Nonterminal) → is_lone c ≡ true → is c (node k ts) ≡ true → in_stage c (node k ts) ≡ true → (b d : Bool) → is_aim (node k ts) ≡ b → is_bracket k ≡ d → opens (node k ts) ≡ open_in (node k ts)
    by c o i s true d e n = aim_opened k ts e (and_right (admits c (node k ts)) _ i) (and_right (has_kind k) _ s)
    by c o i s false true e n = bracket_opened k ts n (and_right (admits c (node k ts)) _ i) (and_right (has_kind k) _ s)
    by c o i s false false e n = kind_opened k ts (node_listed (operand_kind c {ts = ts} o e n (taken k (and_left (has_kind k) _ s)) (and_left (admits c (node k ts)) _ i))) a (and_right (admits c (node k ts)) _ i) (and_right (has_kind k) _ s)

mutual
  tree_opened : (t : Tree) → Opened t
  tree_opened (leaf k r) = record { on = λ c o i s. refl }
  tree_opened (list ts) = record { on = λ c o i s. cc }
  tree_opened (node k ts) = node_opened k ts (all_opened ts)

  all_opened : (ts : Forest) → AllOpened ts
  all_opened none = nil_opened
  all_opened (part t ts) = cons_opened (tree_opened t) (all_opened ts)

pub value_opened : {v : Surroundings} {c : Nonterminal} {x y : Place} {t : Tree} → is_lone c ≡ true → Staged v false c x t y → opens t ≡ open_in t
value_opened {c = c} {t = t} o r = (tree_opened t).on c o r.reads.is r.staged

-- ---- where a sequence may stand

only_value : {v : Surroundings} {x y : Place} {t : Tree} → Value t → Staged v false (Expr 0) x t y → opens_whole t ≡ open_in t
only_value (literal l h) r = refl
only_value (made {k} {ts} l) r = ap (λ b. cond b (opens_listed ts) (opens (node k ts))) (is_not _ (of_each (λ j. not (is_several j)) refl k l)) ∙ value_opened {c = Expr 1} refl (move at_one (made l) r)

some_opened : {v : Surroundings} {x y : Place} {ts : Forest} → Items Staged v TwoOrMore (Expr 1) x ts y → some_of opens ts ≡ any_open ts
some_opened (nil f) = refl
some_opened (last r e f) = ap (λ b. b || false) (value_opened {c = Expr 1} refl r)
some_opened (more n r e all) = let here = value_opened {c = Expr 1} refl r in let rest = some_opened all in (λ i. here i || rest i)

several_opened : {v : Surroundings} {x y : Place} {us ts : Forest} → Walk Staged (around v us) (row_so_far (expression Seq)) x ts y → opens_whole (node (expression Seq) ts) ≡ open_in (node (expression Seq) ts)
several_opened (next (many {ts = ts} n all) (done f)) = some_opened all ∙ sym (or_false (any_open ts))

whole_tree : {v : Surroundings} {x y : Place} {t : Tree} → AtWhole t → Staged v false (Expr 0) x t y → opens_whole t ≡ open_in t
whole_tree (single k) r = only_value k r
whole_tree (several {ts}) r = several_opened {us = ts} (of_so_far.from_node (expression Seq) r).walk

pub whole_opened : {v : Surroundings} {x y : Place} {t : Tree} → Staged v false (Expr 0) x t y → opens_whole t ≡ open_in t
whole_opened {t = t} r = whole_tree (at_whole t r) r

-- ---- declarators

declarator_opened : {V : _} {x y : Place} {ts : Forest} → Walk Staged V (row_so_far (statement Declarator)) x ts y → opens_declared (node (statement Declarator) ts) ≡ open_in (node (statement Declarator) ts)
declarator_opened (next (tree {t = p} q) (next (sign e f) (next (absent d g) (done h)))) = let name = pattern_shut p q in sym (λ i. name i || (false || false))
declarator_opened (next (tree {t = p} q) (next (sign e f) (next (present {t = u} d r g h) (done k)))) =
    let name = pattern_shut p q in
    let value = value_opened refl r in
    sym ((λ i. name i || ((sym value i || false) || false)) ∙ (or_false (opens u || false) ∙ or_false (opens u)))

tree_declared : {v : Surroundings} {x y : Place} (t : Tree) → Staged v false Declarators x t y → opens_declared t ≡ open_in t
tree_declared (leaf k r) q = refl
tree_declared (list ts) q = absurd (no_list q)
tree_declared {v} {x} {y} (node l ts) q =
    let e = bound_kind l ts (taken_by q) (home_of q) in
    subst (λ k. opens_declared (node k ts) ≡ open_in (node k ts)) (sym e) (declarator_opened (of_so_far.from_node (statement Declarator) (subst (λ k. Staged v false Declarators x (node k ts) y) e q)).walk)

pub items_opened : {v : Surroundings} {x y : Place} {ts : Forest} → Items (Whole so_far) v NoTrailing Declarators x ts y → any_opens ts ≡ any_open ts
items_opened (nil f) = refl
items_opened (last {t = t} r e f) = ap (λ b. b || false) (tree_declared t r.reads)
items_opened (more {t = t} n r e all) = let here = tree_declared t r.reads in let rest = items_opened all in (λ i. here i || rest i)

-- ---- a loop over a list

abbrev pub opens_from : (Tree → Bool) → ℕ → List Tree → Bool
opens_from f zero ts = some_of f (forest ts)
opens_from f (suc n) [] = false
opens_from f (suc n) (t ∷ ts) = opens_from f n ts

opens_at : (f : Tree → Bool) (i : ℕ) (ts : List Tree) (t : Tree) → i < length ts → t ≡ get_or ts i t → opens_from f i ts ≡ (f t || opens_from f (suc i) ts)
opens_at f i [] t w e = absurd (omega arith)
opens_at f zero (u ∷ us) t w e = ap (λ v. f v || some_of f (forest us)) (sym e)
opens_at f (suc i) (u ∷ us) t w e = opens_at f i us t (omega arith) e

opens_end : (f : Tree → Bool) (i : ℕ) (ts : List Tree) → length ts ≤ i → opens_from f i ts ≡ false
opens_end f zero [] h = refl
opens_end f (suc i) [] h = refl
opens_end f zero (t ∷ ts) h = absurd (omega arith)
opens_end f (suc i) (t ∷ ts) h = opens_end f i ts (omega arith)

one_at : {A : Type 0} (f : Tree → Bool) (v : A → Tree) (xs : List A) (i : ℕ) (x : A) → i < length xs → x ≡ get_or xs i x → opens_from f i (map v xs) ≡ (f (v x) || opens_from f (suc i) (map v xs))
one_at f v xs i x w is = opens_at f i (map v xs) (v x) (omega (arith, length-map xs v)) (ap v is ∙ sym (get_or-map v xs i x (v x) w))

pub opens_past : {A : Type 0} (f : Tree → Bool) (v : A → Tree) (xs : List A) (i : ℕ) (x : A) → i < length xs → x ≡ get_or xs i x → f (v x) ≡ false → some_of f (forest (map v xs)) ≡ opens_from f i (map v xs) → some_of f (forest (map v xs)) ≡ opens_from f (i + 1) (map v xs)
opens_past f v xs i x w is n k =
    let one : suc i ≡ i + 1 = omega arith in
    k ∙ (one_at f v xs i x w is ∙ (ap (λ b. b || opens_from f (suc i) (map v xs)) n ∙ ap (λ j. opens_from f j (map v xs)) one))

pub opens_found : {A : Type 0} (f : Tree → Bool) (v : A → Tree) (xs : List A) (i : ℕ) (x : A) → i < length xs → x ≡ get_or xs i x → f (v x) ≡ true → some_of f (forest (map v xs)) ≡ opens_from f i (map v xs) → true ≡ some_of f (forest (map v xs))
opens_found f v xs i x w is y k = sym (k ∙ (one_at f v xs i x w is ∙ ap (λ b. b || opens_from f (suc i) (map v xs)) y))

pub opens_ended : {A : Type 0} (f : Tree → Bool) (v : A → Tree) (xs : List A) (i : ℕ) → length xs ≤ i → some_of f (forest (map v xs)) ≡ opens_from f i (map v xs) → false ≡ some_of f (forest (map v xs))
opens_ended f v xs i h k = sym (k ∙ opens_end f i (map v xs) (omega (arith, length-map xs v)))
