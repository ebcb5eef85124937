-- A piece of a template is parts, and what closes it.
use Rattle.std.proofs.Common.{◌≡◌, ℕ, Bool, true, false, not, cond, ◌&&◌, nat_eq, List, [], ◌∷◌, ◌++◌, append_assoc, refl, sym, ap, ◌∙◌, subst, codes}
use Rattle.jsx_base.specs.Token.{Text, TokenKind, NoSubstitution, TemplateHead, TemplateMiddle, TemplateTail, NoToken, Piece, is_kind, State, Done, InPiece, InPieceEscape, BehindDollar, in_piece, accepts, taken, left, last_state, ended, lexed}
use Rattle.jsx_base.specs.LiteralParts.{TemplatePart, Plain, Dollar, Backslashed, text_of_template_part, may_stand_in_template, text_of_template_parts, all_may_stand_in_template, IsPiece, TemplatesAreParts, PiecesAreParts}
use Rattle.jsx_base.proofs.WholeTokens.{ends_as, never, both, number_is, is_dead, closes, from_token, to_token}

put : (closing : Text) (p : TemplatePart) (t : Text) → may_stand_in_template p t ≡ true → IsPiece closing t → IsPiece closing (text_of_template_part p ++ t)
put closing p t m b = record {
  parts = p ∷ b.parts;
  stand = both (subst (λ (u : Text). may_stand_in_template p u ≡ true) b.is m) b.stand;
  is = ap (λ (u : Text). text_of_template_part p ++ u) b.is ∙ sym (append_assoc (text_of_template_part p) (text_of_template_parts b.parts) closing);
}

-- what is read of a piece, given what is known where it closes
record Closed (k a b : TokenKind) (closing : Text) : Type 0 where
  none : is_kind NoToken k ≡ false
  by_quote : (t : Text) → ends_as k (Done a) t ≡ true → IsPiece closing (96 ∷ t)
  by_brace : (t : Text) → ends_as k (Done b) t ≡ true → IsPiece closing (36 ∷ 123 ∷ t)

behind_dollar : (k a b : TokenKind) (closing : Text) → Closed k a b closing → (d : ℕ) (u : Text) (x : Bool) → nat_eq d 123 ≡ x → (ends_as k (InPiece a b) (d ∷ u) ≡ true → IsPiece closing (d ∷ u)) → ends_as k (cond x (Done b) (in_piece a b d)) u ≡ true → IsPiece closing (36 ∷ d ∷ u)
behind_dollar k a b closing z d u true e more h = let p : d ≡ 123 = number_is d 123 e in subst (λ (x : ℕ). IsPiece closing (36 ∷ x ∷ u)) (sym p) (z.by_brace u h)
behind_dollar k a b closing z d u false e more h = put closing Dollar (d ∷ u) (rw e refl) (more h)

at_character : (k a b : TokenKind) (closing : Text) → Closed k a b closing → (c : ℕ) (t : Text) (x y w : Bool) → nat_eq c 96 ≡ x → nat_eq c 92 ≡ y → nat_eq c 36 ≡ w
    → (ends_as k (InPieceEscape a b) t ≡ true → IsPiece closing (92 ∷ t)) → (ends_as k (BehindDollar a b) t ≡ true → IsPiece closing (36 ∷ t)) → (ends_as k (InPiece a b) t ≡ true → IsPiece closing t)
    → ends_as k (cond x (Done a) (cond y (InPieceEscape a b) (cond w (BehindDollar a b) (InPiece a b)))) t ≡ true → IsPiece closing (c ∷ t)
at_character k a b closing z c t true y w e f g escape dollar more h = let p : c ≡ 96 = number_is c 96 e in subst (λ (x : ℕ). IsPiece closing (x ∷ t)) (sym p) (z.by_quote t h)
at_character k a b closing z c t false true w e f g escape dollar more h = let p : c ≡ 92 = number_is c 92 f in subst (λ (x : ℕ). IsPiece closing (x ∷ t)) (sym p) (escape h)
at_character k a b closing z c t false false true e f g escape dollar more h = let p : c ≡ 36 = number_is c 36 g in subst (λ (x : ℕ). IsPiece closing (x ∷ t)) (sym p) (dollar h)
at_character k a b closing z c t false false false e f g escape dollar more h = put closing (Plain c) t (rw (e, f, g) refl) (more h)

not_open : {A : Type 0} (k : TokenKind) → is_kind NoToken k ≡ false → is_kind NoToken k ≡ true → A
not_open k none h = never (sym none ∙ h)

piece : (k a b : TokenKind) (closing : Text) → Closed k a b closing → (t : Text) → ends_as k (InPiece a b) t ≡ true → IsPiece closing t
piece k a b closing z [] h = not_open k z.none h
piece k a b closing z (c ∷ []) h = at_character k a b closing z c [] (nat_eq c 96) (nat_eq c 92) (nat_eq c 36) refl refl refl (λ l. not_open k z.none l) (λ l. not_open k z.none l) (λ l. not_open k z.none l) h
piece k a b closing z (c ∷ d ∷ u) h =
    at_character k a b closing z c (d ∷ u) (nat_eq c 96) (nat_eq c 92) (nat_eq c 36) refl refl refl
    (λ l. put closing (Backslashed d) u refl (piece k a b closing z u l))
    (λ l. behind_dollar k a b closing z d u (nat_eq d 123) refl (λ r. piece k a b closing z (d ∷ u) r) l)
    (λ l. piece k a b closing z (d ∷ u) l) h

-- where a kind is closed by the one and not by the other
quoted : (k b : TokenKind) → is_kind NoToken k ≡ false → is_kind b k ≡ false → Closed k k b (codes "`")
quoted k b none other = record {
  none = none;
  by_quote = λ t h. record { parts = []; stand = refl; is = ap (λ (u : Text). 96 ∷ u) (closes k none t h) };
  by_brace = λ t h. never_done k b none other t h;
}
  where
    never_done : {A : Type 0} (k b : TokenKind) → is_kind NoToken k ≡ false → is_kind b k ≡ false → (t : Text) → ends_as k (Done b) t ≡ true → A
    never_done k b none other [] h = never (sym other ∙ h)
    never_done k b none other (c ∷ t) h = is_dead k none t h

braced : (k a : TokenKind) → is_kind NoToken k ≡ false → is_kind a k ≡ false → Closed k a k (codes "${")
braced k a none other = record {
  none = none;
  by_quote = λ t h. never_done k a none other t h;
  by_brace = λ t h. record { parts = []; stand = refl; is = ap (λ (u : Text). 36 ∷ 123 ∷ u) (closes k none t h) };
}
  where
    never_done : {A : Type 0} (k b : TokenKind) → is_kind NoToken k ≡ false → is_kind b k ≡ false → (t : Text) → ends_as k (Done b) t ≡ true → A
    never_done k b none other [] h = never (sym other ∙ h)
    never_done k b none other (c ∷ t) h = is_dead k none t h

not_true : (b : Bool) → not b ≡ true → b ≡ false
not_true true h = never h
not_true false h = refl

and_left : (a b : Bool) → (a && b) ≡ true → a ≡ true
and_left true b h = refl
and_left false b h = h

and_right : (a b : Bool) → (a && b) ≡ true → b ≡ true
and_right true b h = h
and_right false b h = never h

part_ends : (k a b : TokenKind) → is_kind NoToken k ≡ false → (p : TemplatePart) (u : Text) → may_stand_in_template p u ≡ true → ends_as k (InPiece a b) u ≡ true → ends_as k (InPiece a b) (text_of_template_part p ++ u) ≡ true
part_ends k a b none (Plain c) u m h =
    let r = and_right (not (nat_eq c 96)) (not (nat_eq c 92) && not (nat_eq c 36)) m in
    rw (not_true (nat_eq c 96) (and_left (not (nat_eq c 96)) (not (nat_eq c 92) && not (nat_eq c 36)) m), not_true (nat_eq c 92) (and_left (not (nat_eq c 92)) (not (nat_eq c 36)) r), not_true (nat_eq c 36) (and_right (not (nat_eq c 92)) (not (nat_eq c 36)) r)) h
part_ends k a b none Dollar [] m h = not_open k none h
part_ends k a b none Dollar (d ∷ u) m h = subst (λ (x : Bool). ends_as k (cond x (Done b) (in_piece a b d)) u ≡ true) (sym (not_true (nat_eq d 123) m)) h
part_ends k a b none (Backslashed c) u m h = h

parts_end : (k a b : TokenKind) → is_kind NoToken k ≡ false → (closing : Text) → ends_as k (InPiece a b) closing ≡ true → (ps : List TemplatePart) → all_may_stand_in_template ps closing ≡ true → ends_as k (InPiece a b) (text_of_template_parts ps ++ closing) ≡ true
parts_end k a b none closing e [] m = e
parts_end k a b none closing e (p ∷ ps) m =
    let u : Text = text_of_template_parts ps ++ closing in
    let whole : (text_of_template_part p ++ text_of_template_parts ps) ++ closing ≡ text_of_template_part p ++ u = append_assoc (text_of_template_part p) (text_of_template_parts ps) closing in
    subst (λ (t : Text). ends_as k (InPiece a b) t ≡ true) (sym whole) (part_ends k a b none p u (and_left (may_stand_in_template p u) (all_may_stand_in_template ps closing) m) (parts_end k a b none closing e ps (and_right (may_stand_in_template p u) (all_may_stand_in_template ps closing) m)))

parts_text : (k a b : TokenKind) → is_kind NoToken k ≡ false → (closing : Text) → ends_as k (InPiece a b) closing ≡ true → (t : Text) → IsPiece closing t → ends_as k (InPiece a b) t ≡ true
parts_text k a b none closing e t z = subst (λ (u : Text). ends_as k (InPiece a b) u ≡ true) (sym z.is) (parts_end k a b none closing e z.parts z.stand)

pub templates_are_parts : TemplatesAreParts
templates_are_parts body = (
  (
    (λ h. piece NoSubstitution NoSubstitution TemplateHead (codes "`") (quoted NoSubstitution TemplateHead refl refl) body (from_token NoSubstitution refl (InPiece NoSubstitution TemplateHead) 96 body h)),
    (λ z. to_token NoSubstitution refl (λ raw rest. refl) (InPiece NoSubstitution TemplateHead) 96 body (parts_text NoSubstitution NoSubstitution TemplateHead refl (codes "`") refl body z)),
  ),
  (
    (λ h. piece TemplateHead NoSubstitution TemplateHead (codes "${") (braced TemplateHead NoSubstitution refl refl) body (from_token TemplateHead refl (InPiece NoSubstitution TemplateHead) 96 body h)),
    (λ z. to_token TemplateHead refl (λ raw rest. refl) (InPiece NoSubstitution TemplateHead) 96 body (parts_text TemplateHead NoSubstitution TemplateHead refl (codes "${") refl body z)),
  ),
)

lexed_if : (c : ℕ) (t : Text) (x y w : Bool) → let s : State = cond x (Done TemplateTail) (cond y (InPieceEscape TemplateTail TemplateMiddle) (cond w (BehindDollar TemplateTail TemplateMiddle) (InPiece TemplateTail TemplateMiddle))) in lexed Piece s c t ≡ ended (accepts (last_state s t)) (c ∷ taken s t) (left s t)
lexed_if c t true y w = refl
lexed_if c t false true w = refl
lexed_if c t false false true = refl
lexed_if c t false false false = refl

lexed_piece : (c : ℕ) (t : Text) → lexed Piece (in_piece TemplateTail TemplateMiddle c) c t ≡ ended (accepts (last_state (in_piece TemplateTail TemplateMiddle c) t)) (c ∷ taken (in_piece TemplateTail TemplateMiddle c) t) (left (in_piece TemplateTail TemplateMiddle c) t)
lexed_piece c t = lexed_if c t (nat_eq c 96) (nat_eq c 92) (nat_eq c 36)

pub pieces_are_parts : PiecesAreParts
pieces_are_parts c t =
    let s : State = in_piece TemplateTail TemplateMiddle c in (
      (
        (λ h. piece TemplateTail TemplateTail TemplateMiddle (codes "`") (quoted TemplateTail TemplateMiddle refl refl) (c ∷ t) (from_token TemplateTail refl s c t (sym (lexed_piece c t) ∙ h))),
        (λ z. lexed_piece c t ∙ to_token TemplateTail refl (λ raw rest. refl) s c t (parts_text TemplateTail TemplateTail TemplateMiddle refl (codes "`") refl (c ∷ t) z)),
      ),
      (
        (λ h. piece TemplateMiddle TemplateTail TemplateMiddle (codes "${") (braced TemplateMiddle TemplateTail refl refl) (c ∷ t) (from_token TemplateMiddle refl s c t (sym (lexed_piece c t) ∙ h))),
        (λ z. lexed_piece c t ∙ to_token TemplateMiddle refl (λ raw rest. refl) s c t (parts_text TemplateMiddle TemplateTail TemplateMiddle refl (codes "${") refl (c ∷ t) z)),
      ),
    )
