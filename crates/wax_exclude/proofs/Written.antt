-- The lines of an ignore list's text.
use Rattle.std.proofs.Common.{inl, inr, map, ◌≡◌, ◌≢◌, ◌==◌, ◌+◌, ◌<◌, ◌∙◌, ℕ, true, false, if◌then◌else◌}
use Rattle.std.proofs.Common.{List, [], ◌∷◌, ◌++◌, drop, length, get_or, refl, sym, ap, append_assoc}
use Rattle.std.proofs.{lemmas.Bool.{cases_Bool, eqb-true}, lemmas.List.drop_more}
use Rattle.wax_exclude.specs.Lines.{Written, is_skipped, line_at, lines_from, said_at, reincludes}
use Rattle.wax_exclude.specs.Lines.{without_return}

-- ---- the carriage return at the end

pub return_dropped : (line : List ℕ) → without_return (line ++ 13 ∷ []) ≡ line
return_dropped [] = refl
return_dropped (b ∷ []) = refl
return_dropped (b ∷ c ∷ line) = ap (λ rest. b ∷ rest) (return_dropped (c ∷ line))

pub none_dropped : (line : List ℕ) → ((front : List ℕ) → line ≢ front ++ 13 ∷ []) → without_return line ≡ line
none_dropped [] h = refl
none_dropped (b ∷ []) h = elim (cases_Bool (b == 13)) [
  | inl e ↦ absurd (h [] (ap (λ v. v ∷ []) (eqb-true b 13 e)))
  | inr e ↦ ap (λ v. if v then [] else b ∷ []) e
]
none_dropped (b ∷ c ∷ line) h =
    ap (λ rest. b ∷ rest) (none_dropped (c ∷ line) (λ front e. h (b ∷ front) (ap (λ rest. b ∷ rest) e)))

-- ---- what a line says

pub says_nothing : (number : ℕ) (part line : List ℕ) → line ≡ without_return part → is_skipped line ≡ true
    → [] ≡ line_at number part
says_nothing number part line e h = sym (ap (λ l. if is_skipped l then [] else said_at number l ∷ []) (sym e)
    ∙ ap (λ b. if b then [] else said_at number line ∷ []) h)

says_something : (number : ℕ) (part line : List ℕ) → line ≡ without_return part → is_skipped line ≡ false
    → said_at number line ∷ [] ≡ line_at number part
says_something number part line e h = sym (ap (λ l. if is_skipped l then [] else said_at number l ∷ [])
    (sym e) ∙ ap (λ b. if b then [] else said_at number line ∷ []) h)

pub says_taken_back : (number : ℕ) (part line expression : List ℕ) → line ≡ without_return part
    → is_skipped line ≡ false → line ≡ 33 ∷ expression →
    record { number = number; ignores = false; expression = expression } ∷ [] ≡ line_at number part
says_taken_back number part line expression e h back =
    sym (ap (λ l. said_at number l ∷ []) back) ∙ says_something number part line e h

not_back : (line : List ℕ) → ((rest : List ℕ) → line ≢ 33 ∷ rest) → reincludes line ≡ false
not_back [] h = refl
not_back (b ∷ line) h =
    elim (cases_Bool (b == 33)) [ inl e ↦ absurd (h line (ap (λ v. v ∷ line) (eqb-true b 33 e))) | inr e ↦ e ]

pub says_ignored : (number : ℕ) (part line : List ℕ) → line ≡ without_return part → is_skipped line ≡ false
    → ((rest : List ℕ) → line ≢ 33 ∷ rest) →
    record { number = number; ignores = true; expression = line } ∷ [] ≡ line_at number part
says_ignored number part line e h n =
    let k : said_at number line ≡ record { number = number; ignores = true; expression = line } =
    ap (λ b. if b then record { number = number; ignores = false; expression = drop 1 line }
    else record { number = number; ignores = true; expression = line }) (not_back line n) in
    sym (ap (λ l. l ∷ []) k) ∙ says_something number part line e h

-- ---- line after line

module _ {X : Type 0} (text_of : X → List ℕ) where
  pub next_line : (all read more : List Written) (parts : List X) (i : ℕ) (x : X) → i < length parts
      → more ≡ line_at (i + 1) (text_of (get_or parts i x)) →
      read ++ lines_from (i + 1) (map text_of (drop i parts)) ≡ all
      → (read ++ more) ++ lines_from (i + 1 + 1) (map text_of (drop (i + 1) parts)) ≡ all
  next_line all read more parts i x in' says h =
      append_assoc read more (lines_from (i + 1 + 1) (map text_of (drop (i + 1) parts)))
      ∙ ap (λ z. read ++ (z ++ lines_from (i + 1 + 1) (map text_of (drop (i + 1) parts)))) says
      ∙ ap (λ z. read ++ lines_from (i + 1) (map text_of z)) (sym (drop_more parts i x in')) ∙ h
