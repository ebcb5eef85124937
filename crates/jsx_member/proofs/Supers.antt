-- What begins with `super`: a call, a member by its name and one in brackets, told apart by the sign behind the word (ECMA-262 section 13.3.7).
use Rattle.std.proofs.Common.{◌≡◌, nat_eq, Bool, true, false, List, [], ◌∷◌, refl, sym, ◌∙◌, subst}
use Rattle.std.specs.Prelude.{IsTrue, codes, ◌||◌}
use Rattle.jsx_base.specs.Token.{Text, Operator, Punctuator, same}
use Rattle.jsx_tree.specs.Signs.{Sign, Tok}
use Rattle.jsx_tree.specs.Kinds.{SuperCall, SuperIndex, SuperMember, Kind, expression, Tree, node, Forest, none, part}
use Rattle.jsx_tree.specs.Nonterminals.{Expr, Name}
use Rattle.jsx_tree.specs.Grammar.{Fixed, Part, key, pun}
use Rattle.jsx_tree.specs.Reading.{Place, Lost, forth}
use Rattle.jsx_tree.specs.StaticRules.{Surroundings, rule}
use Rattle.jsx_tree.specs.Walk.{is_found, nothing, one, Piece, tail}
use Rattle.jsx_tree.specs.Answers.{Moves, Only, Barred, OnlyRow, NoNode, BuiltNode}
use Rattle.jsx_tree.specs.Faults.{Fault}
use Rattle.jsx_tree.proofs.Tokens.{and_both, and_right}
use Rattle.jsx_tree.proofs.Apart.{clash, never_both}
use Rattle.jsx_tree.proofs.Rows.Bodies.{plain as plain_row}
use Rattle.jsx_tree.proofs.Rows.Bridge.{found_at}
use Rattle.jsx_tree.proofs.Rows.Guarded.{to_grammar}
use Rattle.jsx_tree.proofs.Rows.Laws.{end_found}
use Rattle.jsx_tree.proofs.Rows.Placing.{no_node}
use Rattle.jsx_tree.proofs.Rows.Steps.{bar, end, no_sign, on, then'}
use Rattle.jsx_tree.proofs.Rows.Stopping.{or_cases}
use Rattle.jsx_tree.proofs.Rows.Turns.{whole_of}
use Rattle.jsx_token.specs.Here.{Here, place_of}
use Rattle.jsx_token.specs.Marks.{row_so_far}
use Rattle.jsx_token.specs.Places.{Takes}
use Rattle.jsx_token.proofs.Listed.{listed, code, kinds, every, of_each, one_place, implies, implied}
use Rattle.jsx_operand.specs.Openings.{opens_with, NoParts, OnlyOpened, NoneOpened}
use Rattle.jsx_operand.specs.SoFar.{so_far}
use Rattle.jsx_operand.proofs.OfSoFar.{of_so_far}
use Rattle.jsx_operand.proofs.Climbing.{signed_no_node, signed_node}
use Rattle.jsx_operand.proofs.Openings.{Other, itself, barred, free_none, opened_by, opens_listed}
use Rattle.jsx_operand.proofs.Values.{led_sign}

-- ---- which kinds begin so

abbrev supers : Kind → Bool
supers j = implies (opens_with (key "super") j) (nat_eq (code j) (code (expression SuperCall)) || (nat_eq (code j) (code (expression SuperMember)) || nat_eq (code j) (code (expression SuperIndex))))

all_supers : every supers kinds ≡ true
all_supers = refl

of_super : (P : Kind → Type 0) → P (expression SuperCall) → P (expression SuperMember) → P (expression SuperIndex) → (j : Kind) → opens_with (key "super") j ≡ true → P j
of_super P p q r j o =
    let m = opens_listed (key "super") j o in
    or_cases (nat_eq (code j) (code (expression SuperCall))) _ (implied (opens_with (key "super") j) _ (of_each supers all_supers j m) o)
    (λ e. subst P (sym (one_place j (expression SuperCall) m (listed (expression SuperCall) refl refl refl) e)) p)
    (λ s. or_cases (nat_eq (code j) (code (expression SuperMember))) (nat_eq (code j) (code (expression SuperIndex))) s
    (λ e. subst P (sym (one_place j (expression SuperMember) m (listed (expression SuperMember) refl refl refl) e)) q)
    (λ e. subst P (sym (one_place j (expression SuperIndex) m (listed (expression SuperIndex) refl refl refl) e)) r))

-- the rows behind the word, and behind the sign
abbrev call_row : List Piece
call_row = tail (row_so_far (expression SuperCall))

abbrev member_row : List Piece
member_row = tail (row_so_far (expression SuperMember))

abbrev index_row : List Piece
index_row = tail (row_so_far (expression SuperIndex))

none_super : {v : Surroundings} {a : Place} {e : Fault} → NoNode so_far v call_row (expression SuperCall) a e → NoNode so_far v member_row (expression SuperMember) a e → NoNode so_far v index_row (expression SuperIndex) a e → NoneOpened v (key "super") a e
none_super {v} {a} {e = e} p q r = record { no = of_super (λ j. NoParts v j a e) (free_none (expression SuperCall) refl p) (free_none (expression SuperMember) refl q) (free_none (expression SuperIndex) refl r) }

-- ---- the sign behind

-- another one stands there
other_call : {v : Surroundings} {a : Place} {e : Fault} (d : Text) → same (codes "(") d ≡ false → IsTrue (is_found (forth (Tok Operator Punctuator d) a)) → NoNode so_far v call_row (expression SuperCall) a e
other_call {a = a} d n f = no_node (record { no = λ ts y w s. never_both Punctuator Punctuator (codes "(") d a n (led_sign call_row refl w) f })

other_member : {v : Surroundings} {a : Place} {e : Fault} (d : Text) → same (codes ".") d ≡ false → IsTrue (is_found (forth (Tok Operator Punctuator d) a)) → NoNode so_far v member_row (expression SuperMember) a e
other_member {a = a} d n f = no_node (record { no = λ ts y w s. never_both Punctuator Punctuator (codes ".") d a n (led_sign member_row refl w) f })

other_index : {v : Surroundings} {a : Place} {e : Fault} (d : Text) → same (codes "[") d ≡ false → IsTrue (is_found (forth (Tok Operator Punctuator d) a)) → NoNode so_far v index_row (expression SuperIndex) a e
other_index {a = a} d n f = no_node (record { no = λ ts y w s. never_both Punctuator Punctuator (codes "[") d a n (led_sign index_row refl w) f })

moved_found : {a b : Place} (d : Text) → Moves (Tok Operator Punctuator d) a b → IsTrue (is_found (forth (Tok Operator Punctuator d) a))
moved_found d m = found_at (sym m.is) m.found

-- ---- a call, behind its `(`

pub call_built : {v : Surroundings} {a y : Place} {t : Tree} {ts : Forest} → v.super_call ≡ true → OnlyRow so_far v (tail call_row) a ts y → t ≡ node (expression SuperCall) ts → BuiltNode so_far v (tail call_row) (expression SuperCall) t a y
call_built h o e = record { parts = _; is = e; row = o; keeps = and_both _ _ (plain_row (tail call_row) refl (to_grammar of_so_far o.walk)) h }

pub call_outside : {v : Surroundings} {a : Place} {e : Fault} → v.super_call ≡ false → NoNode so_far v (tail call_row) (expression SuperCall) a e
call_outside h = record { no = λ ts y w k s. clash _ (and_right (rule (expression SuperCall) ts) _ k) h }

pub call_opened : {v : Surroundings} {a b y : Place} {t : Tree} → Moves (pun "(") a b → BuiltNode so_far v (tail call_row) (expression SuperCall) t b y → OnlyOpened v (key "super") t a y
call_opened {v} {a} m b =
    let f = moved_found (codes "(") m in
    opened_by (expression SuperCall) refl refl (signed_node call_row refl m b) (of_super (Other v a (expression SuperCall)) itself (barred refl (other_member (codes "(") refl f)) (barred refl (other_index (codes "(") refl f)))

pub call_unread : {v : Surroundings} {a b : Place} {e : Fault} → Moves (pun "(") a b → NoNode so_far v (tail call_row) (expression SuperCall) b e → NoneOpened v (key "super") a e
call_unread m n = let f = moved_found (codes "(") m in none_super (signed_no_node call_row refl m n) (other_member (codes "(") refl f) (other_index (codes "(") refl f)

-- ---- a member in brackets, behind its `[`

pub index_built : {v : Surroundings} {a b y : Place} {i t : Tree} → v.super' ≡ true → Only so_far v (Part (Expr 0)) a (one i) b → Only so_far v (Fixed (pun "]")) b nothing y → IsTrue (is_found y) → t ≡ node (expression SuperIndex) (part i none) → BuiltNode so_far v (tail index_row) (expression SuperIndex) t a y
index_built {v} {a} {y = y} {i} h o close f e = record { parts = part i none; is = e; row = row; keeps = and_both _ _ (plain_row (tail index_row) refl (to_grammar of_so_far row.walk)) h }
  where
    row : OnlyRow so_far v (tail index_row) a (part i none) y
    row = then' o (then' close (end f))

pub index_outside : {v : Surroundings} {a : Place} {e : Fault} → v.super' ≡ false → NoNode so_far v (tail index_row) (expression SuperIndex) a e
index_outside h = record { no = λ ts y w k s. clash _ (and_right (rule (expression SuperIndex) ts) _ k) h }

pub index_opened : {v : Surroundings} {a b y : Place} {t : Tree} → Moves (pun "[") a b → BuiltNode so_far v (tail index_row) (expression SuperIndex) t b y → OnlyOpened v (key "super") t a y
index_opened {v} {a} m b =
    let f = moved_found (codes "[") m in
    opened_by (expression SuperIndex) refl refl (signed_node index_row refl m b) (of_super (Other v a (expression SuperIndex)) (barred refl (other_call (codes "[") refl f)) (barred refl (other_member (codes "[") refl f)) itself)

pub index_unread : {v : Surroundings} {a b : Place} {e : Fault} → Moves (pun "[") a b → NoNode so_far v (tail index_row) (expression SuperIndex) b e → NoneOpened v (key "super") a e
index_unread m n = let f = moved_found (codes "[") m in none_super (other_call (codes "[") refl f) (other_member (codes "[") refl f) (signed_no_node index_row refl m n)

-- ---- a member by its name, where neither of the others stands

pub nothing_opened : {v : Surroundings} {a : Place} {e : Fault} → forth (pun "(") a ≡ Lost → forth (pun "[") a ≡ Lost → Barred so_far v (Fixed (pun ".")) a e → NoneOpened v (key "super") a e
nothing_opened p q b = none_super (no_node (bar (no_sign (record { is = p })))) (no_node (bar b)) (no_node (bar (no_sign (record { is = q }))))

pub member_outside : {v : Surroundings} {a : Place} {e : Fault} → v.super' ≡ false → forth (pun "(") a ≡ Lost → forth (pun "[") a ≡ Lost → NoneOpened v (key "super") a e
member_outside h p q = none_super (no_node (bar (no_sign (record { is = p })))) (record { no = λ ts y w k s. clash _ (and_right (rule (expression SuperMember) ts) _ k) h }) (no_node (bar (no_sign (record { is = q }))))

pub member_unread : {v : Surroundings} {a b : Place} {e : Fault} → forth (pun "(") a ≡ Lost → forth (pun "[") a ≡ Lost → Only so_far v (Fixed (pun ".")) a nothing b → Barred so_far v (Part Name) b e → NoneOpened v (key "super") a e
member_unread p q o b = none_super (no_node (bar (no_sign (record { is = p })))) (no_node (on o (bar b))) (no_node (bar (no_sign (record { is = q }))))

pub member_opened : {v : Surroundings} {a b y : Place} {n t : Tree} → v.super' ≡ true → forth (pun "(") a ≡ Lost → forth (pun "[") a ≡ Lost → Only so_far v (Fixed (pun ".")) a nothing b → Only so_far v (Part Name) b (one n) y → t ≡ node (expression SuperMember) (part n none) → OnlyOpened v (key "super") t a y
member_opened {v} {a} {y = y} {n} {t} h p q o name e =
    opened_by (expression SuperMember) refl refl built (of_super (Other v a (expression SuperMember)) (barred refl (no_node (bar (no_sign (record { is = p }))))) itself (barred refl (no_node (bar (no_sign (record { is = q }))))))
  where
    row : OnlyRow so_far v member_row a (part n none) y
    row = then' o (then' name (end (end_found of_so_far (whole_of name.past).reads)))

    built : BuiltNode so_far v member_row (expression SuperMember) t a y
    built = record { parts = part n none; is = e; row = row; keeps = and_both _ _ (plain_row member_row refl (to_grammar of_so_far row.walk)) h }

-- ---- from a place that is another

pub opened_from : {v : Surroundings} {x y : Here} {t : Tree} {z : Place} → x ≡ y → OnlyOpened v (key "super") t (place_of x) z → OnlyOpened v (key "super") t (place_of y) z
opened_from {v} {t = t} {z} e o = subst (λ h. OnlyOpened v (key "super") t (place_of h) z) e o

pub none_from : {v : Surroundings} {x y : Here} {o : Fault} → x ≡ y → NoneOpened v (key "super") (place_of x) o → NoneOpened v (key "super") (place_of y) o
none_from {v} {o = o} e n = subst (λ h. NoneOpened v (key "super") (place_of h) o) e n

pub takes_to : {s : Sign} {x y z : Here} → z ≡ y → Takes s x y → Takes s x z
takes_to {s} {x} e k = subst (Takes s x) (sym e) k
