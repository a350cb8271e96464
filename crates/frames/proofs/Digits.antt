-- The steps of the proofs on a line's digits.
use Rattle.std.proofs.Common.{◌≡◌, ℕ, ◌+◌, ◌*◌, Bool, true, false, cond, ◌&&◌, [], ◌∷◌, length, get_or, Some, None, Option, Ok, Err, Result, refl, ap, ◌∙◌, sym, arith}
use Rattle.std.proofs.lemmas.Bool.{cond-true, cond-false}
use Rattle.std.specs.Option.{ok_or}
use Rattle.std.proofs.lemmas.Bool.Decides.{nat_tests}
use Rattle.terms.specs.declared.refusal.Refusal.{Refusal}
use Rattle.terms.specs.declared.refusal.Refusal.TheVariants as refusal
use Rattle.frames.specs.Lines.{Line, digit, is_digit, is_frame, kind_field, a_field, v_field}
use Rattle.frames.specs.Kinds.{kind_of}
use Rattle.frames.specs.Decode.{Frame, checked, listed, decoded}
use Rattle.frames.specs.Frames.{fields_of}
use Rattle.frames.specs.declared.kind.Kind.{Kind}
use Rattle.frames.specs.declared.line.Fields.{Fields}

-- whether two bytes are digits, and four
abbrev two : ℕ → ℕ → Bool
two a b = is_digit a && is_digit b

abbrev four : ℕ → ℕ → ℕ → ℕ → Bool
four a b c d = is_digit a && (is_digit b && (is_digit c && is_digit d))

of_twelve : (a b c d e f g h i j k l : Bool)
    → (a && (b && (c && (d && (e && (f && (g && (h && (i && (j && (k && (l && true)))))))))))) ≡ ((a && b) && ((c && d) && ((e && (f && (g && h))) && (i && (j && (k && l))))))
of_twelve a b c d e f g h i j k l = grind (arith, nat_tests)

-- a line of twelve bytes is a frame where its parts are digits
pub twelve : (l : Line) → length l ≡ 12
    → is_frame l ≡ (two (get_or l 0 0) (get_or l 1 0) && (two (get_or l 2 0) (get_or l 3 0) && (four (get_or l 4 0) (get_or l 5 0) (get_or l 6 0) (get_or l 7 0) && four (get_or l 8 0) (get_or l 9 0) (get_or l 10 0) (get_or l 11 0))))
twelve [] n = absurd (omega (arith, n))
twelve (_ ∷ []) n = absurd (omega (arith, n))
twelve (_ ∷ _ ∷ []) n = absurd (omega (arith, n))
twelve (_ ∷ _ ∷ _ ∷ []) n = absurd (omega (arith, n))
twelve (_ ∷ _ ∷ _ ∷ _ ∷ []) n = absurd (omega (arith, n))
twelve (_ ∷ _ ∷ _ ∷ _ ∷ _ ∷ []) n = absurd (omega (arith, n))
twelve (_ ∷ _ ∷ _ ∷ _ ∷ _ ∷ _ ∷ []) n = absurd (omega (arith, n))
twelve (_ ∷ _ ∷ _ ∷ _ ∷ _ ∷ _ ∷ _ ∷ []) n = absurd (omega (arith, n))
twelve (_ ∷ _ ∷ _ ∷ _ ∷ _ ∷ _ ∷ _ ∷ _ ∷ []) n = absurd (omega (arith, n))
twelve (_ ∷ _ ∷ _ ∷ _ ∷ _ ∷ _ ∷ _ ∷ _ ∷ _ ∷ []) n = absurd (omega (arith, n))
twelve (_ ∷ _ ∷ _ ∷ _ ∷ _ ∷ _ ∷ _ ∷ _ ∷ _ ∷ _ ∷ []) n = absurd (omega (arith, n))
twelve (_ ∷ _ ∷ _ ∷ _ ∷ _ ∷ _ ∷ _ ∷ _ ∷ _ ∷ _ ∷ _ ∷ []) n = absurd (omega (arith, n))
twelve (a ∷ b ∷ c ∷ d ∷ e ∷ f ∷ g ∷ h ∷ i ∷ j ∷ k ∷ l ∷ []) n =
    of_twelve (is_digit a) (is_digit b) (is_digit c) (is_digit d) (is_digit e) (is_digit f) (is_digit g) (is_digit h) (is_digit i) (is_digit j) (is_digit k) (is_digit l)
twelve (_ ∷ _ ∷ _ ∷ _ ∷ _ ∷ _ ∷ _ ∷ _ ∷ _ ∷ _ ∷ _ ∷ _ ∷ _ ∷ _) n = absurd (omega (arith, n))

-- what an Option that is there only under a condition tells of the condition, and of its value
pub cut_some : {A : Type 0} (b : Bool) (f g : A) → Some f ≡ cond b (Some g) None → b ≡ true
cut_some true f g e = refl
cut_some false f g e = let z : ◌≡◌ {A = ℕ} 0 1 = cc in absurd (omega arith)

pub cut_none : {A : Type 0} (b : Bool) (g : A) → None ≡ cond b (Some g) None → b ≡ false
cut_none true g e = let z : ◌≡◌ {A = ℕ} 0 1 = cc in absurd (omega arith)
cut_none false g e = refl

cut_value : (b : Bool) (f g : ℕ) → Some f ≡ cond b (Some g) None → f ≡ g
cut_value true f g e = cc
cut_value false f g e = let z : ◌≡◌ {A = ℕ} 0 1 = cc in absurd (omega arith)

-- four conditions together, of which one fails, or none
second_fails : (a b c d : Bool) → b ≡ false → (a && (b && (c && d))) ≡ false
second_fails a b c d e = grind (arith, nat_tests)

third_fails : (a b c d : Bool) → c ≡ false → (a && (b && (c && d))) ≡ false
third_fails a b c d e = grind (arith, nat_tests)

last_fails : (a b c d : Bool) → d ≡ false → (a && (b && (c && d))) ≡ false
last_fails a b c d e = grind (arith, nat_tests)

none_fails : (a b c d : Bool) → a ≡ true → b ≡ true → c ≡ true → d ≡ true → (a && (b && (c && d))) ≡ true
none_fails a b c d ea eb ec ed = grind (arith, nat_tests)

-- whether the four parts of a line are digits
abbrev first : Line → Bool
first l = two (get_or l 0 0) (get_or l 1 0)

abbrev second : Line → Bool
second l = two (get_or l 2 0) (get_or l 3 0)

abbrev third : Line → Bool
third l = four (get_or l 4 0) (get_or l 5 0) (get_or l 6 0) (get_or l 7 0)

abbrev last : Line → Bool
last l = four (get_or l 8 0) (get_or l 9 0) (get_or l 10 0) (get_or l 11 0)

no_frame : (l : Line) → is_frame l ≡ false → None ≡ cond (is_frame l) (Some (fields_of l)) None
no_frame l e = sym (cond-false (is_frame l) (Some (fields_of l)) None e)

-- the exits of the cut after its first part, and the whole of it
pub second_is_none : (l : Line) (n : ℕ) → length l ≡ 12 → None ≡ cond (second l) (Some n) None → None ≡ cond (is_frame l) (Some (fields_of l)) None
second_is_none l n h e = no_frame l (twelve l h ∙ second_fails (first l) (second l) (third l) (last l) (cut_none (second l) n e))

pub third_is_none : (l : Line) (n : ℕ) → length l ≡ 12 → None ≡ cond (third l) (Some n) None → None ≡ cond (is_frame l) (Some (fields_of l)) None
third_is_none l n h e = no_frame l (twelve l h ∙ third_fails (first l) (second l) (third l) (last l) (cut_none (third l) n e))

pub last_is_none : (l : Line) (n : ℕ) → length l ≡ 12 → None ≡ cond (last l) (Some n) None → None ≡ cond (is_frame l) (Some (fields_of l)) None
last_is_none l n h e = no_frame l (twelve l h ∙ last_fails (first l) (second l) (third l) (last l) (cut_none (last l) n e))

fields_same : (l : Line) (k a v : ℕ) → k ≡ kind_field l → a ≡ a_field l → v ≡ v_field l → record { kind = k; a = a; v = v } ≡ fields_of l
fields_same l k a v ek ea ev = ap (λ (n : ℕ). record { kind = n; a = a; v = v }) ek ∙ ap (λ (n : ℕ). record { kind = kind_field l; a = n; v = v }) ea ∙ ap (λ (n : ℕ). record { kind = kind_field l; a = a_field l; v = n }) ev

pub whole : (l : Line) (k p w v : ℕ) → length l ≡ 12
    → Some k ≡ cond (first l) (Some (kind_field l)) None
    → Some p ≡ cond (second l) (Some (digit (get_or l 2 0) * 0x10 + digit (get_or l 3 0))) None
    → Some w ≡ cond (third l) (Some (digit (get_or l 4 0) * 0x1000 + digit (get_or l 5 0) * 0x100 + digit (get_or l 6 0) * 0x10 + digit (get_or l 7 0))) None
    → Some v ≡ cond (last l) (Some (v_field l)) None
    → Some (record { kind = k; a = p * 0x10000 + w; v = v }) ≡ cond (is_frame l) (Some (fields_of l)) None
whole l k p w v h ek ep ew ev =
    let frame : is_frame l ≡ true = twelve l h ∙ none_fails (first l) (second l) (third l) (last l) (cut_some (first l) _ _ ek) (cut_some (second l) _ _ ep) (cut_some (third l) _ _ ew) (cut_some (last l) _ _ ev) in
    let high = cut_value (second l) _ _ ep in
    let low = cut_value (third l) _ _ ew in
    let a_is : p * 0x10000 + w ≡ a_field l = omega (arith, high, low) in
    ap (λ (f : Fields). Some f) (fields_same l _ _ _ (cut_value (first l) _ _ ek) a_is (cut_value (last l) _ _ ev))
    ∙ sym (cond-true (is_frame l) (Some (fields_of l)) None frame)

by_frame : (b : Bool) (f g : Fields) (x : Result Frame Refusal) → Some f ≡ cond b (Some g) None
    → listed (kind_of f.kind) f.a f.v ≡ cond b (listed (kind_of g.kind) g.a g.v) x
by_frame true f g x e =
    let same : f ≡ g = cc in
    ap (λ (h : Fields). listed (kind_of h.kind) h.a h.v) same
by_frame false f g x e = let z : ◌≡◌ {A = ℕ} 0 1 = cc in absurd (omega arith)

by_none : (b : Bool) (g : Fields) (x y : Result Frame Refusal) → None ≡ cond b (Some g) None → y ≡ cond b x y
by_none true g x y e = let z : ◌≡◌ {A = ℕ} 0 1 = cc in absurd (omega arith)
by_none false g x y e = refl

-- a line of twelve digits is decoded by its fields
pub decoded_frame : (l : Line) (f : Fields) → Some f ≡ cond (is_frame l) (Some (fields_of l)) None
    → listed (kind_of f.kind) f.a f.v ≡ decoded l
unfolding decoded
decoded_frame l f e = by_frame (is_frame l) f (fields_of l) (Err refusal.NotAFrame) e

pub decoded_none : (l : Line) → None ≡ cond (is_frame l) (Some (fields_of l)) None → Err refusal.NotAFrame ≡ decoded l
unfolding decoded
decoded_none l e =
    by_none (is_frame l) (fields_of l) (listed (kind_of (kind_field l)) (a_field l) (v_field l)) (Err refusal.NotAFrame) e

-- a listed kind's fields are checked
pub listed_kind : (o : Option Kind) (k : Kind) (a v : ℕ) → Ok k ≡ ok_or o refusal.UnknownKind → checked k a v ≡ listed o a v
listed_kind None k a v e = let z : ◌≡◌ {A = ℕ} 0 1 = cc in absurd (omega arith)
listed_kind (Some k') k a v e =
    let same : k ≡ k' = cc in
    ap (λ (h : Kind). checked h a v) same

-- and a line is decoded by what it is cut to
pub decoded_cut : (l : Line) (o : Option Fields) (f : Fields) → o ≡ cond (is_frame l) (Some (fields_of l)) None → Ok f ≡ ok_or o refusal.NotAFrame
    → listed (kind_of f.kind) f.a f.v ≡ decoded l
decoded_cut l None f e some = let z : ◌≡◌ {A = ℕ} 0 1 = cc in absurd (omega arith)
decoded_cut l (Some g) f e some =
    let same : f ≡ g = cc in
    ap (λ (h : Fields). listed (kind_of h.kind) h.a h.v) same ∙ decoded_frame l g e

pub decoded_uncut : (l : Line) (o : Option Fields) (r : Refusal) → o ≡ cond (is_frame l) (Some (fields_of l)) None → Err r ≡ ok_or o refusal.NotAFrame
    → Err r ≡ decoded l
decoded_uncut l None r e none =
    let same : r ≡ refusal.NotAFrame = cc in
    ap (λ (x : Refusal). Err x) same ∙ decoded_none l e
decoded_uncut l (Some g) r e none = let z : ◌≡◌ {A = ℕ} 0 1 = cc in absurd (omega arith)
