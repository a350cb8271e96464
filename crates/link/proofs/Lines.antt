-- How lines grow by bytes more, and that a line is answered by its first thirteen bytes.
use Rattle.std.proofs.Common.{◌≡◌, ℕ, true, false, cond, eqb, List, [], ◌∷◌, ◌++◌, length, take, Err, sym, refl, ap, ◌∙◌, inl, inr, arith}
use Rattle.std.proofs.lemmas.List.{take_all, take_at, length-take, append_assoc, append-nil}
use lib.Seq.{take-append-le}
use Rattle.std.proofs.lemmas.Bool.{cases_lt, ne_eqb, and_left, and_parts, cond-false}
use Rattle.std.proofs.lemmas.Bool.Decides.{nat_tests}
use Rattle.terms.specs.declared.refusal.Refusal.TheVariants as refusal
use Rattle.frames.specs.Lines.{Line, is_digit, all_digits, is_frame, kind_field, a_field, v_field}
use Rattle.frames.specs.Kinds.{kind_of}
use Rattle.frames.specs.Decode.{listed, decoded}
use Rattle.rules.specs.Machine.{Machine}
use Rattle.rules.specs.Step.{after, step, outcome, outcome_if, step_if, answered, answer}
use Rattle.frames.specs.Spelling.{spelled}
use Rattle.link.specs.Stream.{ended, begun_by, lines, unfinished, answers, kept, Stands}

-- both go on from where they are
pub ended_append : (older : List Line) (begun xs ys : List ℕ) → ended older begun (xs ++ ys) ≡ ended (ended older begun xs) (begun_by begun xs) ys
ended_append older begun [] ys = refl
ended_append older begun (b ∷ xs) ys =
    elim (eqb b 0x0A) as (λ t. cond t (ended (begun ∷ older) [] (xs ++ ys)) (ended older (begun ++ b ∷ []) (xs ++ ys)) ≡ ended (cond t (ended (begun ∷ older) [] xs) (ended older (begun ++ b ∷ []) xs)) (cond t (begun_by [] xs) (begun_by (begun ++ b ∷ []) xs)) ys) [
      | true ↦ ended_append (begun ∷ older) [] xs ys
      | false ↦ ended_append older (begun ++ b ∷ []) xs ys
    ]

pub begun_append : (begun xs ys : List ℕ) → begun_by begun (xs ++ ys) ≡ begun_by (begun_by begun xs) ys
begun_append begun [] ys = refl
begun_append begun (b ∷ xs) ys =
    elim (eqb b 0x0A) as (λ t. cond t (begun_by [] (xs ++ ys)) (begun_by (begun ++ b ∷ []) (xs ++ ys)) ≡ begun_by (cond t (begun_by [] xs) (begun_by (begun ++ b ∷ []) xs)) ys) [
      | true ↦ begun_append [] xs ys
      | false ↦ begun_append (begun ++ b ∷ []) xs ys
    ]

-- a line of another length than twelve is no frame
other_length : (l : Line) → (length l ≡ 12 → ⊥) → decoded l ≡ Err refusal.NotAFrame
unfolding decoded
other_length l n =
    cond-false (is_frame l) (listed (kind_of (kind_field l)) (a_field l) (v_field l)) (Err refusal.NotAFrame)
    (and_left (eqb (length l) 12) (all_digits l) (ne_eqb (length l) 12 n))

-- so a line is decoded by its first thirteen bytes
decoded_by_kept : (l : Line) → decoded (take kept l) ≡ decoded l
decoded_by_kept l =
    elim (cases_lt 13 (length l)) [
      | inl h ↦ other_length (take 13 l) (λ e. omega (arith, length-take 13 l)) ∙ sym (other_length l (λ e. omega arith))
      | inr h ↦ ap decoded (take_all 13 l h)
    ]

pub step_by_kept : (m : Machine) (l : Line) → step m (take kept l) ≡ step m l
unfolding step
step_by_kept m l = ap (λ d. step_if d m) (decoded_by_kept l)

pub answer_by_kept : (m : Machine) (l : Line) → answer m (take kept l) ≡ answer m l
unfolding answer outcome step
answer_by_kept m l = ap (λ d. answered (outcome_if d m) (step_if d m)) (decoded_by_kept l)

-- a line of digits has no end in it
digits_end : (older : List Line) (begun line : Line) → all_digits line ≡ true → ended older begun (line ++ 0x0A ∷ []) ≡ (begun ++ line) ∷ older
digits_end older begun [] d = ap (λ l. l ∷ older) (sym (append-nil begun))
digits_end older begun (b ∷ line) d =
    let p = and_parts (is_digit b) (all_digits line) d in
    let digit = p.0 in
    let other : eqb b 0x0A ≡ false = grind (arith, nat_tests) in
    cond-false (eqb b 0x0A) (ended (begun ∷ older) [] (line ++ 0x0A ∷ [])) (ended older (begun ++ b ∷ []) (line ++ 0x0A ∷ [])) other
    ∙ digits_end older (begun ++ b ∷ []) line p.1
    ∙ ap (λ l. l ∷ older) (append_assoc begun (b ∷ []) line)

digits_begin : (begun line : Line) → all_digits line ≡ true → begun_by begun (line ++ 0x0A ∷ []) ≡ []
digits_begin begun [] d = refl
digits_begin begun (b ∷ line) d =
    let p = and_parts (is_digit b) (all_digits line) d in
    let digit = p.0 in
    let other : eqb b 0x0A ≡ false = grind (arith, nat_tests) in
    cond-false (eqb b 0x0A) (begun_by [] (line ++ 0x0A ∷ [])) (begun_by (begun ++ b ∷ []) (line ++ 0x0A ∷ [])) other
    ∙ digits_begin (begun ++ b ∷ []) line p.1

-- the lines of bytes with a whole line of digits more, where the bytes end between two lines
pub lines_frame : (bytes line : List ℕ) → all_digits line ≡ true → unfinished bytes ≡ [] → lines (bytes ++ (line ++ 0x0A ∷ [])) ≡ line ∷ lines bytes
lines_frame bytes line d none =
    ended_append [] [] bytes (line ++ 0x0A ∷ [])
    ∙ digits_end (lines bytes) (unfinished bytes) line d
    ∙ ap (λ l. (l ++ line) ∷ lines bytes) none

pub unfinished_frame : (bytes line : List ℕ) → all_digits line ≡ true → unfinished (bytes ++ (line ++ 0x0A ∷ [])) ≡ []
unfinished_frame bytes line d = begun_append [] bytes (line ++ 0x0A ∷ []) ∙ digits_begin (unfinished bytes) line d

-- and with a byte more that ends no line
pub lines_other : (bytes : List ℕ) (b : ℕ) → (b ≡ 0x0A → ⊥) → lines (bytes ++ b ∷ []) ≡ lines bytes
lines_other bytes b n =
    ended_append [] [] bytes (b ∷ [])
    ∙ cond-false (eqb b 0x0A) (unfinished bytes ∷ lines bytes) (lines bytes) (ne_eqb b 0x0A n)

unfinished_other : (bytes : List ℕ) (b : ℕ) → (b ≡ 0x0A → ⊥) → unfinished (bytes ++ b ∷ []) ≡ unfinished bytes ++ b ∷ []
unfinished_other bytes b n =
    begun_append [] bytes (b ∷ [])
    ∙ cond-false (eqb b 0x0A) [] (unfinished bytes ++ b ∷ []) (ne_eqb b 0x0A n)

-- a byte more of a line whose first thirteen are held
more_held : (l : Line) (b : ℕ) → take 13 (take 13 l ++ b ∷ []) ≡ take 13 (l ++ b ∷ [])
more_held l b =
    elim (cases_lt 13 (length l)) [
      | inl h ↦ take_at (take 13 l) (b ∷ []) 13 (omega (arith, length-take 13 l)) ∙ sym (take-append-le 13 l (b ∷ []) (omega arith))
      | inr h ↦ ap (λ x. take 13 (x ++ b ∷ [])) (take_all 13 l h)
    ]

-- what a link stands at after a byte that ends no line
pub stands_other : (first m m' : Machine) (bytes h h' : List ℕ) (b : ℕ) → (b ≡ 0x0A → ⊥) → m' ≡ m → h' ≡ take 13 (h ++ b ∷ []) → Stands first bytes m h → Stands first (bytes ++ b ∷ []) m' h'
stands_other first m m' bytes h h' b n em eh s = record {
  machine_is = em ∙ s.machine_is ∙ ap (after first) (sym (lines_other bytes b n));
  held_is =
      eh ∙ ap (λ x. take 13 (x ++ b ∷ [])) s.held_is
      ∙ more_held (unfinished bytes) b
      ∙ ap (take 13) (sym (unfinished_other bytes b n));
}

-- after the end of a line
pub stands_end : (first m m' : Machine) (bytes h h' : List ℕ) → m' ≡ step m h → h' ≡ [] → Stands first bytes m h → Stands first (bytes ++ 0x0A ∷ []) m' h'
stands_end first m m' bytes h h' em eh s = record {
  machine_is =
      em ∙ ap (λ x. step x h) s.machine_is
      ∙ ap (step (after first (lines bytes))) s.held_is
      ∙ step_by_kept (after first (lines bytes)) (unfinished bytes)
      ∙ ap (after first) (sym (ended_append [] [] bytes (0x0A ∷ [])));
  held_is = eh ∙ ap (take 13) (sym (begun_append [] bytes (0x0A ∷ [])));
}

pub said_end : (first m : Machine) (bytes h : List ℕ) → Stands first bytes m h → answers first (lines bytes) ++ spelled (answer m h) ≡ answers first (lines (bytes ++ 0x0A ∷ []))
said_end first m bytes h s =
    ap (λ x. answers first (lines bytes) ++ spelled (answer x h)) s.machine_is
    ∙ ap (λ x. answers first (lines bytes) ++ spelled (answer (after first (lines bytes)) x)) s.held_is
    ∙ ap (λ x. answers first (lines bytes) ++ spelled x) (answer_by_kept (after first (lines bytes)) (unfinished bytes))
    ∙ ap (answers first) (sym (ended_append [] [] bytes (0x0A ∷ [])))

-- where nothing is held, no line is begun
none_begun : (l : Line) → take 13 l ≡ [] → l ≡ []
none_begun [] e = refl
none_begun (b ∷ l) e = let z : ◌≡◌ {A = ℕ} 0 1 = cc in absurd (omega arith)

-- after a whole line of digits
pub stands_frame : (first m m' : Machine) (bytes h h' line : List ℕ) → all_digits line ≡ true → h ≡ [] → h' ≡ [] → m' ≡ step m line → Stands first bytes m h → Stands first (bytes ++ (line ++ 0x0A ∷ [])) m' h'
stands_frame first m m' bytes h h' line d eh eh' em s =
    let none = none_begun (unfinished bytes) (sym s.held_is ∙ eh) in record {
      machine_is = em ∙ ap (λ x. step x line) s.machine_is ∙ ap (after first) (sym (lines_frame bytes line d none));
      held_is = eh' ∙ ap (take 13) (sym (unfinished_frame bytes line d));
    }

pub said_frame : (first m : Machine) (bytes h line : List ℕ) → all_digits line ≡ true → h ≡ [] → Stands first bytes m h → answers first (lines bytes) ++ spelled (answer m line) ≡ answers first (lines (bytes ++ (line ++ 0x0A ∷ [])))
said_frame first m bytes h line d eh s =
    let none = none_begun (unfinished bytes) (sym s.held_is ∙ eh) in
    ap (λ x. answers first (lines bytes) ++ spelled (answer x line)) s.machine_is
    ∙ ap (answers first) (sym (lines_frame bytes line d none))
