-- How a link goes on by a byte, by a whole frame, and twice.
use Rattle.std.proofs.Common.{◌≡◌, ℕ, zero, suc, ◌+◌, ◌<◌, ◌≤◌, Bool, true, false, cond, eqb, List, [], ◌∷◌, ◌++◌, length, get_or, take, drop, Some, None, Option, sym, refl, ap, ◌∙◌, subst, zero-le, suc-add, zero-add, arith, rules, ◌-◌, MatchOption}
use Rattle.std.proofs.lemmas.List.{places, same_lists, take_more, take_all, take-take, append_assoc, append-nil, drop-drop}
use Rattle.std.proofs.lemmas.Bool.{and_parts}
use Rattle.frames.specs.Lines.{Line, all_digits, is_frame}
use Rattle.rules.specs.Machine.{Machine}
use Rattle.rules.specs.Step.{after, step, answer}
use Rattle.frames.specs.Spelling.{spelled}
use Rattle.frames.specs.declared.answer.Answer.{Answer}
use Rattle.link.specs.Stream.{lines, answers, Stands, GoesOn, said, last_line}
use Rattle.link.proofs.Lines.{stands_other, stands_end, said_end, stands_frame, said_frame, lines_other, step_by_kept, answer_by_kept}

-- going on twice
pub goes_twice : {m m' m'' : Machine} {h h' h'' : List ℕ} (xs ys new more : List ℕ) → GoesOn m h m' h' xs new → GoesOn m' h' m'' h'' ys more → GoesOn m h m'' h'' (xs ++ ys) (new ++ more)
goes_twice {m'' = m''} {h'' = h''} xs ys new more one two = record {
  stands = λ first bytes s.
      subst (λ (x : List ℕ). Stands first x m'' h'') (append_assoc bytes xs ys) (two.stands first (bytes ++ xs) (one.stands first bytes s));
  says = λ first bytes s.
      sym (append_assoc (answers first (lines bytes)) new more)
      ∙ ap (λ x. x ++ more) (one.says first bytes s)
      ∙ two.says first (bytes ++ xs) (one.stands first bytes s)
      ∙ ap (λ x. answers first (lines x)) (append_assoc bytes xs ys);
}

-- going nowhere
pub goes_nowhere : (m : Machine) (h : List ℕ) → GoesOn m h m h [] []
goes_nowhere m h = record {
  stands = λ first bytes s. subst (λ (x : List ℕ). Stands first x m h) (sym (append-nil bytes)) s;
  says = λ first bytes s. append-nil (answers first (lines bytes)) ∙ ap (λ x. answers first (lines x)) (sym (append-nil bytes));
}

-- a byte that ends no line
pub goes_other : (m m' : Machine) (h h' : List ℕ) (b : ℕ) → (b ≡ 0x0A → ⊥) → m' ≡ m → h' ≡ take 13 (h ++ b ∷ []) → GoesOn m h m' h' (b ∷ []) []
goes_other m m' h h' b other em eh = record {
  stands = λ first bytes s. stands_other first m m' bytes h h' b other em eh s;
  says = λ first bytes s. append-nil (answers first (lines bytes)) ∙ ap (answers first) (sym (lines_other bytes b other));
}

-- the end of a line of which some bytes are held
pub goes_end : (m m' : Machine) (h h' : List ℕ) (b : ℕ) (r : Answer) → b ≡ 0x0A → m' ≡ step m h → h' ≡ [] → r ≡ answer m h → GoesOn m h m' h' (b ∷ []) (spelled r)
goes_end m m' h h' b r ten em eh er = record {
  stands = λ first bytes s. subst (λ (x : ℕ). Stands first (bytes ++ x ∷ []) m' h') (sym ten) (stands_end first m m' bytes h h' em eh s);
  says = λ first bytes s.
      ap (λ x. answers first (lines bytes) ++ spelled x) er
      ∙ said_end first m bytes h s
      ∙ ap (λ x. answers first (lines (bytes ++ x ∷ []))) (sym ten);
}

-- what a line of digits is answered
some_frame : (b : Bool) (r x : Answer) (m m' n : Machine) → Some r ≡ cond b (Some x) None → m' ≡ cond b n m → (b ≡ true) × (r ≡ x) × (m' ≡ n)
some_frame true r x m m' n e f = (refl, cc, f)
some_frame false r x m m' n e f = let z : ◌≡◌ {A = ℕ} 0 1 = cc in absurd (omega arith)

-- twelve bytes and the end of a line
take_line : (rest : List ℕ) (n : ℕ) → 12 < length rest → n ≡ 12 → get_or rest 12 0 ≡ 0x0A → take 13 rest ≡ take n rest ++ 0x0A ∷ []
take_line rest n h twelve ten = take_more rest 12 0 h ∙ ap (λ b. take 12 rest ++ b ∷ []) ten ∙ ap (λ k. take k rest ++ 0x0A ∷ []) (sym twelve)

-- a whole line of digits
pub goes_frame : (m m' : Machine) (h h' rest : List ℕ) (r : Answer) (n : ℕ) → 12 < length rest → n ≡ 12 → get_or rest 12 0 ≡ 0x0A → h ≡ [] → h' ≡ []
    → Some r ≡ cond (is_frame (take n rest)) (Some (answer m (take n rest))) None
    → m' ≡ cond (is_frame (take n rest)) (step m (take n rest)) m
    → GoesOn m h m' h' (take 13 rest) (spelled r)
goes_frame m m' h h' rest r n long twelve ten none none' er em =
    let line : List ℕ = take n rest in
    let f = some_frame (is_frame line) r (answer m line) m m' (step m line) er em in
    let digits = (and_parts (eqb (length line) 12) (all_digits line) f.0).1 in
    let e = take_line rest n long twelve ten in
    record {
      stands = λ first bytes s.
          subst (λ (x : List ℕ). Stands first (bytes ++ x) m' h') (sym e) (stands_frame first m m' bytes h h' line digits none none' f.2 s);
      says = λ first bytes s.
          ap (λ x. answers first (lines bytes) ++ spelled x) f.1
          ∙ said_frame first m bytes h line digits none s
          ∙ ap (λ x. answers first (lines (bytes ++ x))) (sym e);
    }

none_frame : (b : Bool) (x : Answer) (m m' n : Machine) → None ≡ cond b (Some x) None → m' ≡ cond b n m → m' ≡ m
none_frame true x m m' n e f = let z : ◌≡◌ {A = ℕ} 0 1 = cc in absurd (omega arith)
none_frame false x m m' n e f = f

-- a whole line that may be digits
pub goes_whole : (m m' : Machine) (h h' rest : List ℕ) (r : Option Answer) (n : ℕ) → 12 < length rest → n ≡ 12 → get_or rest 12 0 ≡ 0x0A → h ≡ [] → h' ≡ []
    → r ≡ cond (is_frame (take n rest)) (Some (answer m (take n rest))) None
    → m' ≡ cond (is_frame (take n rest)) (step m (take n rest)) m
    → MatchOption r ((m' ≡ m) × (h' ≡ h)) (λ a. (13 ≤ length rest) × GoesOn m h m' h' (take 13 rest) (spelled a))
goes_whole m m' h h' rest None n long twelve ten none none' er em =
    (none_frame (is_frame (take n rest)) (answer m (take n rest)) m m' (step m (take n rest)) er em, none' ∙ sym none)
goes_whole m m' h h' rest (Some r) n long twelve ten none none' er em = (long, goes_frame m m' h h' rest r n long twelve ten none none' er em)

-- the same from equal beginnings
pub goes_from : {m m₁ m' : Machine} {h h₁ h' more more₁ new : List ℕ} → m₁ ≡ m → h₁ ≡ h → more₁ ≡ more → GoesOn m₁ h₁ m' h' more₁ new → GoesOn m h m' h' more new
goes_from {m = m} {m' = m'} {h = h} {h₁ = h₁} {h' = h'} {more₁ = more₁} {new = new} em eh e goes =
    subst (λ (x : List ℕ). GoesOn m h m' h' x new) e
    (subst (λ (x : List ℕ). GoesOn m x m' h' more₁ new) eh (subst (λ (x : Machine). GoesOn x h₁ m' h' more₁ new) em goes))

-- the last line, where the input ends in it
pub finish_machine : (first m m' : Machine) (bytes h : List ℕ) (u : Line) → (h ≡ [] → ⊥) → m ≡ after first (lines bytes) → h ≡ take 13 u → m' ≡ step m h → m' ≡ after first (last_line u ++ lines bytes)
finish_machine first m m' bytes h [] some em eh e = absurd (some eh)
finish_machine first m m' bytes h (b ∷ u) some em eh e =
    e ∙ ap (λ x. step x h) em ∙ ap (step (after first (lines bytes))) eh ∙ step_by_kept (after first (lines bytes)) (b ∷ u)

pub finish_says : (first m : Machine) (bytes h : List ℕ) (u : Line) (r : Answer) → (h ≡ [] → ⊥) → m ≡ after first (lines bytes) → h ≡ take 13 u → r ≡ answer m h → answers first (lines bytes) ++ spelled r ≡ answers first (last_line u ++ lines bytes)
finish_says first m bytes h [] r some em eh e = absurd (some eh)
finish_says first m bytes h (b ∷ u) r some em eh e =
    ap (λ x. answers first (lines bytes) ++ spelled x)
    (e ∙ ap (λ x. answer x h) em ∙ ap (answer (after first (lines bytes))) eh ∙ answer_by_kept (after first (lines bytes)) (b ∷ u))

-- what is held, by its length
pub some_held : (xs : List ℕ) → (length xs ≡ 0 → ⊥) → xs ≡ [] → ⊥
some_held xs some e = some (ap length e)

pub none_held : (xs : List ℕ) → length xs ≡ 0 → xs ≡ []
none_held [] e = refl
none_held (x ∷ xs) e = absurd (omega (arith, e))

pub take_one : (rest : List ℕ) → 0 < length rest → get_or rest 0 0 ∷ [] ≡ take 1 rest
take_one rest h = sym (take_more rest 0 0 h)

take_plus : (i n : ℕ) (xs : List ℕ) → take (i + n) xs ≡ take i xs ++ take n (drop i xs)
take_plus zero n xs = ap (λ k. take k xs) (zero-add n)
take_plus (suc i) n [] = ap (λ k. take k []) (suc-add i n) ∙ sym (take_all n [] zero-le)
take_plus (suc i) n (x ∷ xs) = ap (λ k. take k (x ∷ xs)) (suc-add i n) ∙ ap (λ l. x ∷ l) (take_plus i n xs)

-- what is left of `rest`, once t bytes more are taken
abbrev pub left : List ℕ → ℕ → List ℕ
left rest t = take (length rest - t) (drop t rest)

pub length-left : (rest : List ℕ) (t : ℕ) → t ≤ length rest → length (left rest t) ≡ length rest - t
length-left rest t within = grind (arith, places)

-- A turn of the loop over a chunk, of which `read` bytes are taken in all: `rest` is what is still to be taken
pub goes_turn : {m m₁ m₂ : Machine} {h h₁ h₂ : List ℕ} (chunk rest out out' : List ℕ) (r : Option Answer) (read t w w' : ℕ)
    → rest ≡ take (length rest) (drop (read - length rest) chunk) → length rest ≤ read → t ≤ length rest → take w' out' ≡ take w out ++ said r
    → GoesOn m h m₁ h₁ (take (read - length rest) chunk) (take w out) → GoesOn m₁ h₁ m₂ h₂ (take t rest) (said r)
    → GoesOn m h m₂ h₂ (take (read - length (left rest t)) chunk) (take w' out')
goes_turn {m = m} {m₂ = m₂} {h = h} {h₂ = h₂} chunk rest out out' r read t w w' lies few within front one two =
    let at : ℕ = read - length rest in
    let end : ℕ = read - length (left rest t) in
    let inner : take t rest ≡ take t (drop at chunk) = ap (take t) lies ∙ take-take t (length rest) (drop at chunk) within in
    let e : at + t ≡ end = omega (arith, few, within, length-left rest t within) in
    let more : take at chunk ++ take t rest ≡ take end chunk =
    ap (λ x. take at chunk ++ x) inner ∙ sym (take_plus at t chunk) ∙ ap (λ (n : ℕ). take n chunk) e in
    subst (λ (x : List ℕ). GoesOn m h m₂ h₂ (take end chunk) x) (sym front)
    (subst (λ (x : List ℕ). GoesOn m h m₂ h₂ x (take w out ++ said r)) more (goes_twice (take at chunk) (take t rest) (take w out) (said r) one two))

pub rest_turn : (chunk rest : List ℕ) (read t : ℕ) → rest ≡ take (length rest) (drop (read - length rest) chunk) → length rest ≤ read → t ≤ length rest
    → left rest t ≡ take (length (left rest t)) (drop (read - length (left rest t)) chunk)
rest_turn chunk rest read t lies few within =
    let n : ℕ = length rest in
    let at : ℕ = read - n in
    let e = length-left rest t within in
    let parts : take (n - t) (drop t rest) ≡ take (n - t) (drop t (take n (drop at chunk))) = ap (λ x. take (n - t) (drop t x)) lies in
    let same : take (n - t) (drop t (take n (drop at chunk))) ≡ take (n - t) (drop (read - (n - t)) chunk) = same_lists _ _ (search (rules, places)) (λ k d l. grind (arith, places)) in
    parts ∙ same ∙ ap (λ (k : ℕ). take k (drop (read - k) chunk)) (sym e)

-- what both lists have after w they have after j more
pub rest_more : (xs ys : List ℕ) (w j : ℕ) → drop w xs ≡ drop w ys → drop (w + j) xs ≡ drop (w + j) ys
rest_more xs ys w j e = sym (drop-drop j w xs) ∙ ap (drop j) e ∙ drop-drop j w ys

-- a link over a new engine begins with the machine that the engine stands for
pub begins : {first m m' : Machine} {held : List ℕ} → m ≡ first → Stands m [] m' held → Stands first [] m' held
begins {m' = m'} {held = held} e s = subst (λ (x : Machine). Stands x [] m' held) e s
