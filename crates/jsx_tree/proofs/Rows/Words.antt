-- Which kind of statement begins with a word, for all words at once; `for` begins three kinds and isn't here.
use Rattle.std.proofs.Common.{◌≡◌, ℕ, Bool, true, false, cond, ◌∷◌, refl, sym, ◌∙◌, ap}
use Rattle.std.specs.Prelude.{Option, Some, None, IsTrue, codes}
use Rattle.jsx_base.specs.Token.{Text, TokenKind, IdentifierName, same}
use Rattle.jsx_tree.specs.Signs.{Tok}
use Rattle.jsx_base.specs.Token.{Operator}
use Rattle.jsx_tree.specs.Kinds.{Tree, Forest, node, Kind, If, Do, Continue, Break, Return, Throw, Debugger, Switch, Try, For, ForIn, ForOf, VarWord, LetWord, ConstWord, Imported, Exported, From, Specifier, SpecifierAs, Var, While, InObject, InClass, Static, Binds, Assigns, Method, Getter, Setter, Field, ArrayPat, ObjectPat, PropertyPat, ShorthandPat, ShorthandInit, WithInit, RestPat, RestProperty, Nullish, Equal, OpAssign, Binary, PlainTemplate, SubstitutedTemplate, TemplateSpan, Element, program, statement, function, expression, jsx}
use Rattle.jsx_tree.specs.Nonterminals.{SubStmt, in_homes, homes, leaf_in}
use Rattle.jsx_tree.specs.Form.{admits, fits_below, is_leaf}
use Rattle.jsx_tree.specs.Reading.{Place, forth}
use Rattle.jsx_tree.specs.StaticRules.{Surroundings}
use Rattle.jsx_tree.proofs.Tokens.{and_left, same_is}
use Rattle.jsx_tree.specs.Walk.{is_found, row, one}
use Rattle.jsx_tree.specs.Grammar.{Part}
use Rattle.jsx_tree.specs.Language.{Language}
use Rattle.jsx_tree.specs.Answers.{Only, Barred, NoNode, Built}
use Rattle.jsx_tree.specs.Faults.{Fault, outer_if}
use Rattle.jsx_tree.proofs.Depth.Nodes.{counts_as}
use Rattle.jsx_tree.proofs.Rows.Guarded.{guarded}
use Rattle.jsx_tree.proofs.Rows.Stopping.{never_stops}
use Rattle.jsx_tree.proofs.Rows.Laws.{Lawful}
use Rattle.jsx_tree.proofs.Rows.Bridge.{node_walk}
use Rattle.jsx_tree.proofs.Rows.Placing.{free, Chosen, only_node, barred_node}
use Rattle.jsx_tree.proofs.Rows.Firsts.{key_row, Keyed, row_key}

-- the kind that a word begins, and whether `for` does
abbrev pub told : Text → Option Kind
told w =
    cond (same w (codes "var")) (Some (statement (Var VarWord))) (cond (same w (codes "if")) (Some (statement If)) (cond (same w (codes "do")) (Some (statement Do)) (cond (same w (codes "while")) (Some (statement While)) (cond (same w (codes "continue")) (Some (statement Continue)) (cond (same w (codes "break")) (Some (statement Break)) (cond (same w (codes "return")) (Some (statement Return)) (cond (same w (codes "throw")) (Some (statement Throw)) (cond (same w (codes "debugger")) (Some (statement Debugger)) (cond (same w (codes "switch")) (Some (statement Switch)) (cond (same w (codes "try")) (Some (statement Try)) None))))))))))

tells : (w : Text) (k : Kind) → same (codes "for") w ≡ false → in_homes SubStmt (homes k) ≡ true → key_row w (row false k) ≡ true → told w ≡ Some k
tells w (statement (Var VarWord)) f h r = ap told (sym (same_is (codes "var") w r))
tells w (statement If) f h r = ap told (sym (same_is (codes "if") w r))
tells w (statement Do) f h r = ap told (sym (same_is (codes "do") w r))
tells w (statement While) f h r = ap told (sym (same_is (codes "while") w r))
tells w (statement For) f h r = let bad : true ≡ false = sym r ∙ f in cc
tells w (statement ForIn) f h r = let bad : true ≡ false = sym r ∙ f in cc
tells w (statement ForOf) f h r = let bad : true ≡ false = sym r ∙ f in cc
tells w (statement Continue) f h r = ap told (sym (same_is (codes "continue") w r))
tells w (statement Break) f h r = ap told (sym (same_is (codes "break") w r))
tells w (statement Return) f h r = ap told (sym (same_is (codes "return") w r))
tells w (statement Throw) f h r = ap told (sym (same_is (codes "throw") w r))
tells w (statement Debugger) f h r = ap told (sym (same_is (codes "debugger") w r))
tells w (statement Switch) f h r = ap told (sym (same_is (codes "switch") w r))
tells w (statement Try) f h r = ap told (sym (same_is (codes "try") w r))
tells w (statement (Var LetWord)) f h r = cc
tells w (statement (Var ConstWord)) f h r = cc
tells w (statement _) f h r = cc
tells w (program (Specifier Imported)) f h r = cc
tells w (program (Specifier Exported)) f h r = cc
tells w (program (Specifier From)) f h r = cc
tells w (program (SpecifierAs Imported)) f h r = cc
tells w (program (SpecifierAs Exported)) f h r = cc
tells w (program (SpecifierAs From)) f h r = cc
tells w (program _) f h r = cc
tells w (function (Method InObject)) f h r = cc
tells w (function (Method InClass)) f h r = cc
tells w (function (Method Static)) f h r = cc
tells w (function (Getter InObject)) f h r = cc
tells w (function (Getter InClass)) f h r = cc
tells w (function (Getter Static)) f h r = cc
tells w (function (Setter InObject)) f h r = cc
tells w (function (Setter InClass)) f h r = cc
tells w (function (Setter Static)) f h r = cc
tells w (function (Field InObject)) f h r = cc
tells w (function (Field InClass)) f h r = cc
tells w (function (Field Static)) f h r = cc
tells w (function (ArrayPat Binds)) f h r = cc
tells w (function (ArrayPat Assigns)) f h r = cc
tells w (function (ObjectPat Binds)) f h r = cc
tells w (function (ObjectPat Assigns)) f h r = cc
tells w (function (PropertyPat Binds)) f h r = cc
tells w (function (PropertyPat Assigns)) f h r = cc
tells w (function (ShorthandPat Binds)) f h r = cc
tells w (function (ShorthandPat Assigns)) f h r = cc
tells w (function (ShorthandInit Binds)) f h r = cc
tells w (function (ShorthandInit Assigns)) f h r = cc
tells w (function (WithInit Binds)) f h r = cc
tells w (function (WithInit Assigns)) f h r = cc
tells w (function (RestPat Binds)) f h r = cc
tells w (function (RestPat Assigns)) f h r = cc
tells w (function (RestProperty Binds)) f h r = cc
tells w (function (RestProperty Assigns)) f h r = cc
tells w (function _) f h r = cc
tells w (expression (OpAssign Equal)) f h r = cc
tells w (expression (OpAssign _)) f h r = cc
tells w (expression (Binary Nullish)) f h r = cc
tells w (expression (Binary _)) f h r = cc
tells w (expression (PlainTemplate true)) f h r = cc
tells w (expression (PlainTemplate false)) f h r = cc
tells w (expression (SubstitutedTemplate true)) f h r = cc
tells w (expression (SubstitutedTemplate false)) f h r = cc
tells w (expression (TemplateSpan true)) f h r = cc
tells w (expression (TemplateSpan false)) f h r = cc
tells w (expression _) f h r = cc
tells w (jsx Element) f h r = cc
tells w (jsx _) f h r = cc

no_leaf : (k : TokenKind) (t : Text) → leaf_in SubStmt k t ≡ true → ⊥
no_leaf IdentifierName t h = cc
no_leaf _ t h = cc

some_is : {k l : Kind} → Some k ≡ Some l → k ≡ l
some_is e = cc

-- where the word stands, a statement is of the kind that it tells
pub word_chosen : {L : Language} {d : ℕ} {w : Text} {k : Kind} {v : Surroundings} {x : Place} → Lawful L → Keyed d w → same (codes "for") (d ∷ w) ≡ false → told (d ∷ w) ≡ Some k → IsTrue (is_found (forth (Tok Operator IdentifierName (d ∷ w)) x)) → Chosen L v SubStmt k x
word_chosen {L} {d} {w} {k} {v} {x} law key f is g = record {
  no_leaf = λ s t y u. no_leaf s t (and_left (leaf_in SubStmt s t) (is_leaf s t) (law.is_read u.reads).is);
  kind = λ l ts y u. let r = law.is_read u.reads in some_is (sym (tells (d ∷ w) l f (and_left (admits SubStmt (node l ts)) (fits_below SubStmt (node l ts)) r.is) (row_key d w (row false l) key (node_walk false l refl r).walk g)) ∙ is);
}

-- what a function read there is what a statement is; where it read nothing, none is
pub word_only : {L : Language} {d : ℕ} {w : Text} {k : Kind} {v : Surroundings} {x y : Place} {t : Tree} → Lawful L → Keyed d w → same (codes "for") (d ∷ w) ≡ false → told (d ∷ w) ≡ Some k → IsTrue (is_found (forth (Tok Operator IdentifierName (d ∷ w)) x)) → guarded SubStmt (L.rows k) ≡ true → free (L.rows k) ≡ true
    → ((ts : Forest) → admits SubStmt (node k ts) ≡ true) → (b : Built L v (L.rows k) k (λ ts. ts) t x y) → L.keeps k v b.parts ≡ true → Only L v (Part SubStmt) x (one t) y
word_only {y = y} law key f is g gu fr ad b r = only_node law (word_chosen law key f is g) gu fr ad b r (law.ends_there SubStmt y (never_stops SubStmt y refl))

pub word_barred : {L : Language} {d : ℕ} {w : Text} {k : Kind} {v : Surroundings} {x : Place} {e : Fault} (b : Bool) → counts_as b k ≡ true → Lawful L → Keyed d w → same (codes "for") (d ∷ w) ≡ false → told (d ∷ w) ≡ Some k → IsTrue (is_found (forth (Tok Operator IdentifierName (d ∷ w)) x)) → guarded SubStmt (L.rows k) ≡ true → free (L.rows k) ≡ true → NoNode L v (L.rows k) k x e
    → Barred L v (Part SubStmt) x (outer_if b e)
word_barred b i law key f is g gu fr n = barred_node b i law (word_chosen law key f is g) gu fr n
