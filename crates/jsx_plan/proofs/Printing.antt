-- The signs of nodes whose row depends on an operator, and of optional parts.
use Rattle.std.proofs.Common.{Option, Some, None, Box, Global, ◌≡◌, List, [], ◌∷◌, ◌++◌, Bool, true, false, cond, codes, refl, ap, ◌∙◌, append-nil}
use Rattle.jsx_base.specs.Token as token
use Rattle.jsx_tree.specs.Kinds.{Role, Holder, InObject, InClass, Static, Method, Getter, Setter, Field, Assigns, function, BinaryOp, Nullish, UnaryOp, Delete, Binary, Unary, Call, NameLink, IndexLink, CallLink, expression, Tree, node, list, Forest, none, part}
use Rattle.jsx_tree.specs.Nonterminals.{binary}
use Rattle.jsx_tree.specs.Grammar.{NoTrailing, Commas, Elisions, pun, key}
use Rattle.jsx_tree.specs.declared.text.LinkForm.{LinkForm}
use Rattle.jsx_tree.specs.declared.text.LinkForm.TheVariants as link_form
use Rattle.jsx_tree.specs.Signs.{AfterWord, AfterKey, Sign, Semicolon, SameLine, Ends, Space, Indent, Outdent, Count, End}
use Rattle.jsx_base.specs.declared.place.Span.{Span}
use Rattle.jsx_tree.specs.Spelling.{gathered, maybe}
use Rattle.jsx_pen.specs.Calls.{from_call, is_place, leaf_or_place, said}
use Rattle.jsx_tree.specs.Normal.{laid_tree}
use Rattle.jsx_tree.specs.declared.text.Ident.{Ident}
use Rattle.jsx_tree.specs.declared.tree.Expr.{Expr}
use Rattle.jsx_tree.specs.declared.tree.Pat.{Pat}
use Rattle.jsx_tree.specs.declared.tree.Stmt.{Stmt}
use Rattle.jsx_tree.specs.declared.tree.Control.{Control}
use Rattle.jsx_tree.specs.View.{name_of, shorthand_of, text_of, kind_of_literal, is_optional, optional_of, optional_at_of, optional_name}
use Rattle.jsx_tree.specs.declared.text.LiteralKind.{LiteralKind}
use Rattle.jsx_tree.specs.declared.text.LiteralKind.TheVariants as literal_kind
use Rattle.jsx_plan.specs.Noted.{noted_control, noted_expr, noted_pattern, noted_stmt}
use Rattle.jsx_pen.specs.Pen.{State, raw, inked, puts, signs, rows, spaced, placed, placed_at, prefix_signs, dot_text, index_text, call_text, end_text, ends_void, opted, named, bodied, marked, indented}
use Rattle.jsx_pen.proofs.Writing.{writing, puts_append, raw_raw, raw_inked, inked_raw, inked_inked, inked_settled}
use Rattle.jsx_plan.proofs.Gathering.{gathered_commas, gathered_two, gathered_elisions}
use Rattle.jsx_plan.proofs.Spanning.{template_signs}

pub literal_signs : (p : State) (k : LiteralKind) (t : token.Text) → puts p (leaf_or_place (is_place (kind_of_literal k)) (kind_of_literal k) t) ≡ inked p t
literal_signs p literal_kind.Num t = refl
literal_signs p literal_kind.BigInt t = refl
literal_signs p literal_kind.Str t = refl
literal_signs p literal_kind.RegExp t = refl

pub spaced_is : (p : State) (t : token.Text) → raw (inked (raw p (32 ∷ [])) t) (32 ∷ []) ≡ raw p (spaced t)
spaced_is p t = ap (λ q. raw q (32 ∷ [])) (raw_inked p (32 ∷ []) t) ∙ raw_raw p (32 ∷ t) (32 ∷ [])

between : (p : State) (x : List Sign) (y : List Sign) (t : token.Text) → puts (raw (inked (raw (puts p x) (32 ∷ [])) t) (32 ∷ [])) (y ++ (End ∷ [])) ≡ puts (raw (puts p x) (spaced t)) y
between p x y t = puts_append (raw (inked (raw (puts p x) (32 ∷ [])) t) (32 ∷ [])) y (End ∷ []) ∙ ap (λ q. puts q y) (spaced_is (puts p x) t)

pub signs_binary : (p : State) (o : BinaryOp) (a : Tree) (b : Tree) → puts p (signs (node (expression (Binary o)) (part a (part b none)))) ≡ puts (raw (puts p (signs a)) (spaced (binary o))) (signs b)
signs_binary p Nullish a b = puts_append p (signs a) _ ∙ between p (signs a) (signs b) (binary Nullish)
signs_binary p o a b = puts_append p (signs a) _ ∙ between p (signs a) (signs b) (binary o)

pub signs_unary : (p : State) (o : UnaryOp) (a : Tree) → puts p (signs (node (expression (Unary o)) (part a none))) ≡ puts (puts p (prefix_signs o)) (signs a)
signs_unary p Delete a = puts_append (puts p (prefix_signs Delete)) (signs a) (End ∷ [])
signs_unary p o a = puts_append (puts p (prefix_signs o)) (signs a) (End ∷ [])

pub signs_name_link : (p : State) (q : LinkForm) (b : Tree) → puts p (signs (node (expression (NameLink (is_optional q))) (part b none))) ≡ puts (inked p (dot_text q)) (signs b)
signs_name_link p link_form.Optional b = puts_append (inked p (codes "?.")) (signs b) (End ∷ [])
signs_name_link p link_form.Plain b = puts_append (inked p (codes ".")) (signs b) (End ∷ [])

pub signs_index_link : (p : State) (q : LinkForm) (a : Tree) → puts p (signs (node (expression (IndexLink (is_optional q))) (part a none))) ≡ inked (puts (inked p (index_text q)) (signs a)) (codes "]")
signs_index_link p link_form.Optional a = puts_append (inked (inked p (codes "?.")) (codes "[")) (signs a) _ ∙ ap (λ s. inked (puts s (signs a)) (codes "]")) (inked_inked p 63 (codes ".") (codes "["))
signs_index_link p link_form.Plain a = puts_append (inked p (codes "[")) (signs a) _

called : (q : State) (ts : Forest) → puts q (gathered Commas (rows ts) ++ (pun ")" ∷ End ∷ [])) ≡ inked (puts q (gathered NoTrailing (rows ts))) (codes ")")
called q ts = puts_append q (gathered Commas (rows ts)) _ ∙ ap (λ s. inked s (codes ")")) (gathered_commas q (rows ts))

pub signs_call : (p : State) (at : Option Span) (f : Tree) (ts : Forest) → puts p (signs (node (expression Call) (part (from_call at f) (part (list ts) none)))) ≡ inked (puts (inked (puts (placed_at p at) (signs f)) (codes "(")) (gathered NoTrailing (rows ts))) (codes ")")
signs_call p None f ts = puts_append p (signs f) _ ∙ called (inked (puts p (signs f)) (codes "(")) ts
signs_call p (Some s) f ts = puts_append (placed p s.lo.0) (signs f) _ ∙ called (inked (puts (placed p s.lo.0) (signs f)) (codes "(")) ts

pub signs_call_link : (p : State) (q : LinkForm) (ts : Forest) → puts p (signs (node (expression (CallLink (is_optional q))) (part (list ts) none))) ≡ inked (puts (inked p (call_text q)) (gathered NoTrailing (rows ts))) (codes ")")
signs_call_link p link_form.Optional ts = called (inked (inked p (codes "?.")) (codes "(")) ts ∙ ap (λ s. inked (puts s (gathered NoTrailing (rows ts))) (codes ")")) (inked_inked p 63 (codes ".") (codes "("))
signs_call_link p link_form.Plain ts = called (inked p (codes "(")) ts

-- ---- arrays

ended : (q : State) (b : Bool) → inked (cond b (inked q (codes ",")) q) (codes "]") ≡ inked q (cond b (codes ",]") (codes "]"))
ended q true = inked_inked q 44 [] (codes "]")
ended q false = refl

pub elided_end : (q : State) (xs : List (List Sign)) → inked (puts q (gathered Elisions xs)) (codes "]") ≡ inked (puts q (gathered NoTrailing xs)) (end_text xs)
elided_end q xs = ap (λ s. inked s (codes "]")) (gathered_elisions q xs) ∙ ended (puts q (gathered NoTrailing xs)) (ends_void xs)

-- ---- optional parts

pub init_opt : (p : State) (e : Option (Box Expr Global)) → puts p (maybe (Count ∷ Space ∷ pun "=" ∷ Space ∷ []) [] [] (said (laid_tree (optional_of noted_expr e)))) ≡ opted p (codes " = ") (optional_of noted_expr e)
init_opt p None = refl
init_opt p (Some e) = ap (puts (raw (inked (raw p (codes " ")) (codes "=")) (codes " "))) (append-nil (signs (noted_expr e.value))) ∙ ap (λ q. puts q (signs (noted_expr e.value))) (spaced_is p (codes "="))

pub field_opt : (p : State) (e : Option (Box Expr Global)) → puts p (maybe (Space ∷ pun "=" ∷ Space ∷ []) [] [] (said (laid_tree (optional_of noted_expr e)))) ≡ opted p (codes " = ") (optional_of noted_expr e)
field_opt p None = refl
field_opt p (Some e) = init_opt p (Some e)

pub extends_opt : (p : State) (e : Option (Box Expr Global)) → puts p (maybe (Space ∷ key "extends" ∷ Space ∷ []) [] [] (said (laid_tree (optional_of noted_expr e)))) ≡ opted p (codes " extends ") (optional_of noted_expr e)
extends_opt p None = refl
extends_opt p (Some e) = ap (puts (raw (inked (raw p (codes " ")) (codes "extends")) (codes " "))) (append-nil (signs (noted_expr e.value))) ∙ ap (λ q. puts q (signs (noted_expr e.value))) (spaced_is p (codes "extends"))

pub else_opt : (p : State) (e : Option (Box Stmt Global)) → puts p (maybe (Space ∷ key "else" ∷ Space ∷ []) [] (codes "else" ∷ []) (said (laid_tree (optional_of noted_stmt e)))) ≡ opted p (codes " else ") (optional_of noted_stmt e)
else_opt p None = refl
else_opt p (Some e) = ap (puts (raw (inked (raw p (codes " ")) (codes "else")) (codes " "))) (append-nil (signs (noted_stmt e.value))) ∙ ap (λ q. puts q (signs (noted_stmt e.value))) (spaced_is p (codes "else"))

pub catch_opt : (p : State) (e : Option (Box Control Global)) → puts p (maybe (Space ∷ key "catch" ∷ Space ∷ []) [] [] (said (laid_tree (optional_of noted_control e)))) ≡ opted p (codes " catch ") (optional_of noted_control e)
catch_opt p None = refl
catch_opt p (Some e) = ap (puts (raw (inked (raw p (codes " ")) (codes "catch")) (codes " "))) (append-nil (signs (noted_control e.value))) ∙ ap (λ q. puts q (signs (noted_control e.value))) (spaced_is p (codes "catch"))

pub finally_opt : (p : State) (e : Option (Box Stmt Global)) → puts p (maybe (Space ∷ key "finally" ∷ Space ∷ []) [] [] (said (laid_tree (optional_of noted_stmt e)))) ≡ opted p (codes " finally ") (optional_of noted_stmt e)
finally_opt p None = refl
finally_opt p (Some e) = ap (puts (raw (inked (raw p (codes " ")) (codes "finally")) (codes " "))) (append-nil (signs (noted_stmt e.value))) ∙ ap (λ q. puts q (signs (noted_stmt e.value))) (spaced_is p (codes "finally"))

pub return_opt : (p : State) (e : Option (Box Expr Global)) → puts p (maybe (SameLine ∷ Space ∷ []) [] [] (said (laid_tree (optional_of noted_expr e)))) ≡ opted p (codes " ") (optional_of noted_expr e)
return_opt p None = refl
return_opt p (Some e) = ap (puts (raw p (codes " "))) (append-nil (signs (noted_expr e.value)))

pub for_opt : (p : State) (e : Option (Box Expr Global)) → puts p (maybe (Space ∷ []) [] [] (said (laid_tree (optional_of noted_expr e)))) ≡ opted p (codes " ") (optional_of noted_expr e)
for_opt p None = refl
for_opt p (Some e) = ap (puts (raw p (codes " "))) (append-nil (signs (noted_expr e.value)))

pub init_part : (p : State) (e : Option (Box Pat Global)) → puts p (maybe [] [] [] (said (laid_tree (optional_at_of Assigns noted_pattern e)))) ≡ named p (optional_at_of Assigns noted_pattern e)
init_part p None = refl
init_part p (Some e) = ap (puts p) (append-nil (signs (noted_pattern e.value Assigns)))

pub label_opt : (p : State) (a : Option Ident) → puts p (maybe (SameLine ∷ Space ∷ []) (Ends AfterWord ∷ []) [] (said (laid_tree (optional_name a)))) ≡ opted p (codes " ") (optional_name a)
label_opt p None = refl
label_opt p (Some a) = refl

pub spaced_name_opt : (p : State) (a : Option Ident) → puts p (maybe (Space ∷ []) [] [] (said (laid_tree (optional_name a)))) ≡ opted p (codes " ") (optional_name a)
spaced_name_opt p None = refl
spaced_name_opt p (Some a) = refl

pub name_opt : (p : State) (a : Option Ident) → puts p (maybe [] [] [] (said (laid_tree (optional_name a)))) ≡ named p (optional_name a)
name_opt p None = refl
name_opt p (Some a) = refl

pub boxed_name_opt : (p : State) (a : Option (Box Ident Global)) → puts p (maybe [] [] [] (said (laid_tree (optional_of name_of a)))) ≡ named p (optional_of name_of a)
boxed_name_opt p None = refl
boxed_name_opt p (Some a) = refl

pub spaced_boxed_name_opt : (p : State) (a : Option (Box Ident Global)) → puts p (maybe (Space ∷ []) [] [] (said (laid_tree (optional_of name_of a)))) ≡ opted p (codes " ") (optional_of name_of a)
spaced_boxed_name_opt p None = refl
spaced_boxed_name_opt p (Some a) = refl

pub ruleset parts = (init_opt, field_opt, extends_opt, else_opt, catch_opt, finally_opt, return_opt, for_opt, init_part, label_opt, spaced_name_opt, name_opt, boxed_name_opt, spaced_boxed_name_opt)

-- ---- members

-- behind a parenthesis: a blank, and a body in braces
body_is : (q : State) (b : Tree) → puts q (pun ")" ∷ Space ∷ pun "{" ∷ Indent ∷ (signs b ++ (Outdent ∷ pun "}" ∷ End ∷ []))) ≡ bodied (inked q (codes ") ")) b
body_is q b = puts_append (indented (inked (raw (inked q (codes ")")) (codes " ")) (codes "{"))) (signs b) _ ∙ ap (λ s. bodied s b) (inked_raw q 41 [] (codes " "))

pub tail_is : (q : State) (ps : Forest) (b : Tree) → puts q (pun "(" ∷ (gathered Commas (rows ps) ++ (pun ")" ∷ Space ∷ pun "{" ∷ Indent ∷ (signs b ++ (Outdent ∷ pun "}" ∷ End ∷ []))))) ≡ bodied (inked (puts (inked q (codes "(")) (gathered NoTrailing (rows ps))) (codes ") ")) b
tail_is q ps b = puts_append (inked q (codes "(")) (gathered Commas (rows ps)) _ ∙ body_is (puts (inked q (codes "(")) (gathered Commas (rows ps))) b ∙ ap (λ s. bodied (inked s (codes ") ")) b) (gathered_commas (inked q (codes "(")) (rows ps))

key_tail : (q : State) (k : Tree) (ps : Forest) (b : Tree) → puts q (signs k ++ (pun "(" ∷ (gathered Commas (rows ps) ++ (pun ")" ∷ Space ∷ pun "{" ∷ Indent ∷ (signs b ++ (Outdent ∷ pun "}" ∷ End ∷ [])))))) ≡ bodied (inked (puts (inked (puts q (signs k)) (codes "(")) (gathered NoTrailing (rows ps))) (codes ") ")) b
key_tail q k ps b = puts_append q (signs k) _ ∙ tail_is (puts q (signs k)) ps b

pub signs_method : (p : State) (h : Holder) (k : Tree) (ps : Forest) (b : Tree) → puts p (signs (node (function (Method h)) (part k (part (list ps) (part b none))))) ≡ bodied (inked (puts (inked (puts (marked p h) (signs k)) (codes "(")) (gathered NoTrailing (rows ps))) (codes ") ")) b
signs_method p InObject k ps b = key_tail (marked p InObject) k ps b
signs_method p InClass k ps b = key_tail (marked p InClass) k ps b
signs_method p Static k ps b = key_tail (marked p Static) k ps b

got_is : (q : State) (k : Tree) (b : Tree) → puts (raw (inked q (codes "get")) (codes " ")) (signs k ++ (pun "(" ∷ pun ")" ∷ Space ∷ pun "{" ∷ Indent ∷ (signs b ++ (Outdent ∷ pun "}" ∷ End ∷ [])))) ≡ bodied (inked (puts (inked q (codes "get ")) (signs k)) (codes "() ")) b
got_is q k b =
    let r = raw (inked q (codes "get")) (codes " ") in
    puts_append r (signs k) _ ∙ body_is (inked (puts r (signs k)) (codes "(")) b ∙ ap (λ s. bodied s b) (inked_inked (puts r (signs k)) 40 [] (codes ") "))
    ∙ ap (λ s. bodied (inked (puts s (signs k)) (codes "() ")) b) (inked_raw q 103 (codes "et") (codes " "))

pub signs_getter : (p : State) (h : Holder) (k : Tree) (b : Tree) → puts p (signs (node (function (Getter h)) (part k (part b none)))) ≡ bodied (inked (puts (inked (marked p h) (codes "get ")) (signs k)) (codes "() ")) b
signs_getter p InObject k b = got_is (marked p InObject) k b
signs_getter p InClass k b = got_is (marked p InClass) k b
signs_getter p Static k b = got_is (marked p Static) k b

taken_is : (q : State) (k : Tree) (a : Tree) (b : Tree) → puts (raw (inked q (codes "set")) (codes " ")) (signs k ++ (pun "(" ∷ (signs a ++ (pun ")" ∷ Space ∷ pun "{" ∷ Indent ∷ (signs b ++ (Outdent ∷ pun "}" ∷ End ∷ [])))))) ≡ bodied (inked (puts (inked (puts (inked q (codes "set ")) (signs k)) (codes "(")) (signs a)) (codes ") ")) b
taken_is q k a b =
    let r = raw (inked q (codes "set")) (codes " ") in
    let s = inked (puts r (signs k)) (codes "(") in
    puts_append r (signs k) _ ∙ puts_append s (signs a) _ ∙ body_is (puts s (signs a)) b
    ∙ ap (λ u. bodied (inked (puts (inked (puts u (signs k)) (codes "(")) (signs a)) (codes ") ")) b) (inked_raw q 115 (codes "et") (codes " "))

pub signs_setter : (p : State) (h : Holder) (k : Tree) (a : Tree) (b : Tree) → puts p (signs (node (function (Setter h)) (part k (part a (part b none))))) ≡ bodied (inked (puts (inked (puts (inked (marked p h) (codes "set ")) (signs k)) (codes "(")) (signs a)) (codes ") ")) b
signs_setter p InObject k a b = taken_is (marked p InObject) k a b
signs_setter p InClass k a b = taken_is (marked p InClass) k a b
signs_setter p Static k a b = taken_is (marked p Static) k a b

field_is : (q : State) (k : Tree) (x : List Sign) → puts q (signs k ++ (Ends AfterKey ∷ (x ++ (Semicolon ∷ End ∷ [])))) ≡ inked (puts (puts q (signs k)) x) (codes ";")
field_is q k x = puts_append q (signs k) _ ∙ puts_append (puts q (signs k)) x _

pub signs_field : (p : State) (h : Holder) (k : Tree) (e : Option (Box Expr Global)) → puts p (signs (node (function (Field h)) (part k (part (optional_of noted_expr e) none)))) ≡ inked (opted (puts (marked p h) (signs k)) (codes " = ") (optional_of noted_expr e)) (codes ";")
signs_field p InObject k e = field_is (marked p InObject) k _ ∙ ap (λ s. inked s (codes ";")) (field_opt (puts (marked p InObject) (signs k)) e)
signs_field p InClass k e = field_is (marked p InClass) k _ ∙ ap (λ s. inked s (codes ";")) (field_opt (puts (marked p InClass) (signs k)) e)
signs_field p Static k e = field_is (marked p Static) k _ ∙ ap (λ s. inked s (codes ";")) (field_opt (puts (marked p Static) (signs k)) e)

pub signs_shorthand : (p : State) (r : Role) (a : Ident) (e : Option (Box Expr Global)) → puts p (signs (shorthand_of noted_expr r (name_of a) e)) ≡ opted (inked p (text_of a.text)) (codes " = ") (optional_of noted_expr e)
signs_shorthand p r a None = refl
signs_shorthand p r a (Some e) = puts_append (raw (inked (raw (inked p (text_of a.text)) (codes " ")) (codes "=")) (codes " ")) (signs (noted_expr e.value)) (End ∷ End ∷ []) ∙ ap (λ q. puts q (signs (noted_expr e.value))) (spaced_is (inked p (text_of a.text)) (codes "="))

pub ruleset members = (signs_shorthand, signs_method, signs_getter, signs_setter, signs_field)

pub ruleset printing = (template_signs, parts, members, signs_name_link, signs_index_link, signs_call_link, writing, literal_signs, signs_binary, signs_unary, spaced_is, gathered_commas, gathered_two)
