-- The trees that the definitions read are of the kinds that the law is proved over: so it is of all trees.
use Rattle.std.proofs.Common.{◌≡◌, true, false, cond, List, [], ◌∷◌, refl, ◌∙◌, subst}
use Rattle.jsx_base.specs.Token.{TokenKind, Punctuator, NoToken}
use Rattle.jsx_tree.specs.declared.text.Goal.{Goal}
use Rattle.jsx_base.specs.Token.{Text}
use Rattle.jsx_tree.specs.Kinds.{BinaryOp, InObject, Imported, ProgramKind, StatementKind, FunctionKind, ExpressionKind, Kind, program, statement, function, expression, jsx, Tree, leaf, node, list, Forest, none, part, ArrayPat, Binary, Binds, CallLink, Delete, Field, ForBinding, ForDeclaration, Getter, Increment, IndexLink, Method, NameLink, Nullish, ObjectPat, OpAssign, PlainTemplate, PostfixUpdate, PrefixUpdate, PropertyPat, RestPat, RestProperty, Setter, ShorthandInit, ShorthandPat, Specifier, SpecifierAs, SubstitutedTemplate, TemplateSpan, Unary, Var, VarWord, WithInit}
use Rattle.jsx_tree.specs.Nonterminals.{Nonterminal, expr, assigns, NullishLeft, NewCallee, DotObject, ForOfHead, WholeProgram, homes, in_homes}
use Rattle.jsx_tree.specs.Form.{Form, Single, Position, position, positions, shaped, admits, is, fits_below, fit_slots, fit_each}
use Rattle.jsx_tree.specs.Program.{Reads}
use Rattle.jsx_tree.proofs.Tokens.{and_left, and_right, and_both}
use Rattle.jsx_tree.proofs.OneTree.Known.{known, kept, kepts}
use Rattle.jsx_tree.proofs.OneTree.Parts.{node_admits}
use Rattle.jsx_tree.proofs.OneTree.Facts.{never, Test, yes', no', test}
use Rattle.jsx_tree.proofs.OneTree.Spines.{home_of}
use Rattle.jsx_tree.proofs.OneTree.Trees.{one_reading}

-- a kind with no home stands nowhere
no_home : (c : Nonterminal) → in_homes c [] ≡ false
no_home NullishLeft = refl
no_home NewCallee = refl
no_home DotObject = refl
no_home ForOfHead = refl
no_home _ = refl

known_program : (k : ProgramKind) → known (program k) ≡ true
known_program (Specifier Imported) = refl
known_program (Specifier _) = refl
known_program (SpecifierAs Imported) = refl
known_program (SpecifierAs _) = refl
known_program _ = refl

known_statement : (k : StatementKind) → known (statement k) ≡ true
known_statement (Var VarWord) = refl
known_statement (Var _) = refl
known_statement (ForDeclaration VarWord) = refl
known_statement (ForDeclaration _) = refl
known_statement (ForBinding VarWord) = refl
known_statement (ForBinding _) = refl
known_statement _ = refl

known_function : (k : FunctionKind) (c : Nonterminal) → in_homes c (homes (function k)) ≡ true → known (function k) ≡ true
known_function (Field InObject) c i = absurd (never (in_homes c []) i (no_home c))
known_function (Field _) c i = refl
known_function (Method InObject) c i = refl
known_function (Method _) c i = refl
known_function (Getter InObject) c i = refl
known_function (Getter _) c i = refl
known_function (Setter InObject) c i = refl
known_function (Setter _) c i = refl
known_function (ArrayPat Binds) c i = refl
known_function (ArrayPat _) c i = refl
known_function (ObjectPat Binds) c i = refl
known_function (ObjectPat _) c i = refl
known_function (PropertyPat Binds) c i = refl
known_function (PropertyPat _) c i = refl
known_function (ShorthandPat Binds) c i = refl
known_function (ShorthandPat _) c i = refl
known_function (ShorthandInit Binds) c i = refl
known_function (ShorthandInit _) c i = refl
known_function (WithInit Binds) c i = refl
known_function (WithInit _) c i = refl
known_function (RestPat Binds) c i = refl
known_function (RestPat _) c i = refl
known_function (RestProperty Binds) c i = refl
known_function (RestProperty _) c i = refl
known_function _ c i = refl

assigns_known : (o : BinaryOp) → known (expression (OpAssign o)) ≡ assigns o
assigns_known Nullish = refl
assigns_known _ = refl

known_assign : (o : BinaryOp) (c : Nonterminal) → in_homes c (homes (expression (OpAssign o))) ≡ true → Test (assigns o) → known (expression (OpAssign o)) ≡ true
known_assign o c i (yes' a) = assigns_known o ∙ a
known_assign o c i (no' a) = absurd (never (in_homes c []) (subst (λ b. in_homes c (cond b (expr 1) []) ≡ true) a i) (no_home c))

known_expression : (k : ExpressionKind) (c : Nonterminal) → in_homes c (homes (expression k)) ≡ true → known (expression k) ≡ true
known_expression (OpAssign o) c i = known_assign o c i (test (assigns o))
known_expression (Binary Nullish) c i = refl
known_expression (Binary _) c i = refl
known_expression (Unary Delete) c i = refl
known_expression (Unary _) c i = refl
known_expression (PrefixUpdate Increment) c i = refl
known_expression (PrefixUpdate _) c i = refl
known_expression (PostfixUpdate Increment) c i = refl
known_expression (PostfixUpdate _) c i = refl
known_expression (NameLink true) c i = refl
known_expression (NameLink _) c i = refl
known_expression (IndexLink true) c i = refl
known_expression (IndexLink _) c i = refl
known_expression (CallLink true) c i = refl
known_expression (CallLink _) c i = refl
known_expression (PlainTemplate true) c i = refl
known_expression (PlainTemplate _) c i = refl
known_expression (SubstitutedTemplate true) c i = refl
known_expression (SubstitutedTemplate _) c i = refl
known_expression (TemplateSpan true) c i = refl
known_expression (TemplateSpan _) c i = refl
known_expression _ c i = refl

known_kind : (k : Kind) (c : Nonterminal) → in_homes c (homes k) ≡ true → known k ≡ true
known_kind (program k) c i = known_program k
known_kind (statement k) c i = known_statement k
known_kind (function k) c i = known_function k c i
known_kind (expression k) c i = known_expression k c i
known_kind (jsx k) c i = refl

kept_leaf : (s : TokenKind) (t : Text) (o : Form) (c : Nonterminal) → shaped o c (leaf s t) ≡ true → kept (leaf s t) ≡ true
kept_leaf Punctuator t Single c i = absurd (never (in_homes c []) i (no_home c))
kept_leaf NoToken t Single c i = absurd (never (in_homes c []) i (no_home c))
kept_leaf Punctuator t _ c i = cc
kept_leaf NoToken t _ c i = cc
kept_leaf _ t o c i = refl

-- a tree at its place
mutual
  kept_tree : (t : Tree) (o : Form) (c : Nonterminal) → shaped o c t ≡ true → fits_below c t ≡ true → kept t ≡ true
  kept_tree (leaf s t) o c a f = kept_leaf s t o c a
  kept_tree (list ts) o c a f = kept_each ts c f
  kept_tree (node k cs) o c a f = and_both (known k) (kepts cs) (known_kind k c (home_of c k cs (node_admits o c k cs a))) (kept_slots cs (positions k) f)

  kept_slots : (ts : Forest) (ss : List Position) → fit_slots ss ts ≡ true → kepts ts ≡ true
  kept_slots none ss f = refl
  kept_slots (part t ts) [] f = cc
  kept_slots (part t ts) (position o c g b a ∷ ss) f =
      let r = and_right (shaped o c t) _ f in
      and_both (kept t) (kepts ts) (kept_tree t o c (and_left (shaped o c t) _ f) (and_left (fits_below c t) _ r)) (kept_slots ts ss (and_right (fits_below c t) (fit_slots ss ts) r))

  kept_each : (ts : Forest) (c : Nonterminal) → fit_each c ts ≡ true → kepts ts ≡ true
  kept_each none c f = refl
  kept_each (part t ts) c f =
      let r = and_right (admits c t) _ f in
      and_both (kept t) (kepts ts) (kept_tree t Single c (and_left (admits c t) _ f) (and_left (fits_below c t) _ r)) (kept_each ts c (and_right (fits_below c t) (fit_each c ts) r))

kept_whole : {goal : Goal} {text : Text} (t : Tree) → Reads goal text t → kept t ≡ true
kept_whole t r =
    let i = and_left (is WholeProgram t) _ r.read in
    kept_tree t Single WholeProgram (and_left (admits WholeProgram t) (fits_below WholeProgram t) i) (and_right (admits WholeProgram t) (fits_below WholeProgram t) i)

-- a text has one tree at most
pub one_tree : (goal : Goal) (text : Text) (t u : Tree) → Reads goal text t → Reads goal text u → t ≡ u
one_tree goal text t u r s = one_reading goal text t u (kept_whole t r) (kept_whole u s) r s
