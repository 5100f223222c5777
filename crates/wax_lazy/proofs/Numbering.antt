-- The numbers of the patterns that match a text, by where the text leads.
use Rattle.std.proofs.Common.{subst, refl, Bool, IsFalse, IsTrue, true, false, zero, suc, Contains, Option}
use Rattle.std.proofs.Common.{Some, None, get_or, slice_get, sym, ◌≡◌, ◌↔◌, ℕ, ◌+◌, ◌-◌, ◌<◌, ◌≤◌, List, []}
use Rattle.std.proofs.Common.{◌∷◌, ◌++◌, length, inl, inr, ◌∙◌, ap, append_assoc, arith}
use Rattle.std.proofs.lemmas.List.{get_or_default}
use Rattle.std.proofs.lemmas.Option.{get_or_from_slice_get, slice_get-get_or, slice_get_within}
use Rattle.std.specs.List.Sorted.{IsStrictlyIncreasing}
use Rattle.wax_lazy.specs.{inner.Cached.IsFollowed, inner.Table.AreNumbersOf}
use Rattle.wax_lazy.specs.Numbers.{AreNumbersFrom, IsLastWhere}
use Rattle.wax_program.proofs.{LastNames.name_decides, Marks.never_plain}
use Rattle.wax_program.specs.{Closed.IsClosed, declared.instruction.Instruction.Instruction}
use Rattle.wax_program.specs.{Last.{IsLastName, ReadsLast}, Machine.{Accepts, mark}, Threads.AnyAmong}
use Rattle.wax_lazy.proofs.Tables.{no_place}
use Rattle.wax_states.specs.{States.{IsDead, LeadOn}, Reached.{AreReached, taken_if}}
use Rattle.wax_token.specs.Meaning.{HasNoSlash}

module _ (code : List Instruction) (start : ℕ) (text : List ℕ) where
  pub numbers_led : (places numbers : List ℕ)
      → ((s : List ℕ) → Accepts code start (text ++ s) ↔ AnyAmong code places s)
      → AreNumbersOf code places numbers → AreNumbersFrom code start text numbers
  numbers_led places numbers leads are = (
    (λ number. (
      (λ h. (leads (mark number ∷ [])).1 ((are.0 number).0 h)),
      (λ a. (are.0 number).1 ((leads (mark number ∷ [])).0 a)),
    )),
    are.1,
  )

  pub numbers_none : (numbers : List ℕ) → numbers ≡ [] → ((s : List ℕ) → Accepts code start (text ++ s) → ⊥)
      → AreNumbersFrom code start text numbers
  numbers_none numbers none dead = (
    (λ number. (
      (λ h. absurd (let lt : h.0 < length numbers = h.1 in omega (arith, lt, ap length none))),
      (λ a. absurd (dead (mark number ∷ []) a)),
    )),
    (λ k lt. absurd (omega (arith, lt, ap length none))),
  )

  -- a closed program doesn't accept all texts that begin so
  pub numbers_never : IsClosed code → ((s : List ℕ) → Accepts code start (text ++ s)) → ⊥
  numbers_never closed all = let a = all (0 ∷ []) in
      never_plain code closed a.0 start text 0 (omega arith) a.1

-- ---- programs for which only the last component matters
marked_slash : (name : List ℕ) (number : ℕ) → HasNoSlash name → HasNoSlash (name ++ mark number ∷ [])
marked_slash [] number h = ((λ e. omega (arith, e)), tt)
marked_slash (c ∷ name) number h = (h.0, marked_slash name number h.1)

marked_name : (text name : List ℕ) (number : ℕ) → IsLastName text name
    → IsLastName (text ++ mark number ∷ []) (name ++ mark number ∷ [])
marked_name text name number is = (
  marked_slash name number is.0,
  elim is.1 [
    | inl e ↦ inl (ap (λ z. z ++ mark number ∷ []) e)
    | inr (before, e) ↦
        inr (before, ap (λ z. z ++ mark number ∷ []) e ∙ append_assoc before (47 ∷ name) (mark number ∷ []))
  ],
)

numbers_last : (code : List Instruction) (text name numbers : List ℕ) → ReadsLast code → IsLastName text name
    → AreNumbersFrom code 2 name numbers → AreNumbersFrom code 0 text numbers
numbers_last code text name numbers last is are = (
  (λ number. (let same = name_decides code (text ++ mark number ∷ []) (name ++ mark number ∷ []) last
      (marked_name text name number is) in (
        (λ h. same.0 ((are.0 number).0 h)),
        (λ a. (are.0 number).1 (same.1 a)),
      ))),
  are.1,
)

-- what is followed of a text decides the whole
pub followed_text : (code : List Instruction) (reads_last : Bool) (start : ℕ) (text part : List ℕ)
    → (IsTrue reads_last → ReadsLast code) → (IsTrue reads_last → start ≡ 2)
    → (IsFalse reads_last → start ≡ 0) → IsFollowed reads_last text part
    → Accepts code start part ↔ Accepts code 0 text
followed_text code true start text part last name whole is =
    subst (λ n. Accepts code n part ↔ Accepts code 0 text) (sym (name refl))
    (name_decides code text part (last refl) is)
followed_text code false start text part last name whole is =
    subst (λ n. Accepts code n part ↔ Accepts code 0 text) (sym (whole refl))
    (subst (λ z. Accepts code 0 part ↔ Accepts code 0 z) is ((λ h. h), (λ h. h)))

pub followed_numbers : (code : List Instruction) (reads_last : Bool) (start : ℕ) (text part numbers : List ℕ)
    → (IsTrue reads_last → ReadsLast code) → (IsTrue reads_last → start ≡ 2)
    → (IsFalse reads_last → start ≡ 0) → IsFollowed reads_last text part
    → AreNumbersFrom code start part numbers → AreNumbersFrom code 0 text numbers
followed_numbers code true start text part numbers last name whole is are =
    numbers_last code text part numbers (last refl) is
    (subst (λ n. AreNumbersFrom code n part numbers) (name refl) are)
followed_numbers code false start text part numbers last name whole is are =
    subst (λ z. AreNumbersFrom code 0 z numbers) is
    (subst (λ n. AreNumbersFrom code n part numbers) (whole refl) are)

-- ---- steps from listed places
-- where a step leads
pub reached_on : (code : List Instruction) (c : ℕ) (places reached : List ℕ) (leads : Bool)
    → AreReached code c places (taken_if leads []) reached → LeadOn code c places reached
reached_on code c places reached true are s = (
  (λ h. (are s).1 (inl h)),
  (λ h. elim ((are s).0 h) [ inl g ↦ g | inr g ↦ absurd (no_place code s g) ]),
)
reached_on code c places reached false are s = (
  (λ h. (are s).1 (inl h)),
  (λ h. elim ((are s).0 h) [ inl g ↦ g | inr g ↦ absurd (no_place code s g) ]),
)

pub nowhere_on : (code : List Instruction) (c : ℕ) (places reached : List ℕ) (leads : Bool)
    → AreReached code c places (taken_if leads []) reached → reached ≡ [] → IsDead code places c
nowhere_on code c places reached leads are none s h =
    no_place code s (subst (λ z. AnyAmong code z s) none ((reached_on code c places reached leads are s).0 h))

-- ---- the greatest number
rising : (xs : List ℕ) (k more : ℕ) → IsStrictlyIncreasing xs → k + more < length xs
    → get_or xs k 0 ≤ get_or xs (k + more) 0
rising xs k zero up lt = let e : k + 0 ≡ k = omega arith in omega (arith, ap (λ j. get_or xs j 0) e)
rising xs k (suc more) up lt =
    let e : k + suc more ≡ k + more + 1 = omega arith in
    let before : k + more < length xs = omega (arith, lt) in
    let next : k + more + 1 < length xs = omega (arith, lt) in
    omega (arith, rising xs k more up before, up (k + more) next, ap (λ j. get_or xs j 0) e)

not_some : {n : ℕ} → None ≡ Some n → ⊥
not_some e = cc

-- the last of listed numbers, which ascend, is the greatest
pub last_where : (Q : ℕ → Type 0) (numbers : List ℕ) (last : Option ℕ)
    → ((number : ℕ) → Contains numbers number ↔ Q number) → IsStrictlyIncreasing numbers
    → last ≡ slice_get numbers (length numbers - 1) → IsLastWhere Q last
last_where Q numbers None are up e = λ number q.
    let h = (are number).1 q in
    let within : length numbers - 1 < length numbers = omega (arith, h.1) in
    absurd (not_some (e ∙ slice_get-get_or numbers (length numbers - 1) 0 within))
last_where Q numbers (Some last) are up e = (
  (are last).0 (
    length numbers - 1,
    slice_get_within numbers (length numbers - 1) last (sym e),
    get_or_from_slice_get numbers (length numbers - 1) last last (sym e),
  ),
  (λ number q. (
      let h = (are number).1 q in
      let j : ℕ = length numbers - 1 in
      let more : h.0 + (j - h.0) ≡ j = omega (arith, h.1) in
      let within : h.0 + (j - h.0) < length numbers = omega (arith, h.1) in
      let here : get_or numbers h.0 0 ≡ number = get_or_default numbers h.0 0 number h.1 ∙ h.2 in
      let there : get_or numbers j 0 ≡ last = get_or_from_slice_get numbers j last 0 (sym e) in
      omega (arith, rising numbers h.0 (j - h.0) up within, ap (λ i. get_or numbers i 0) more, here, there)
      )),
)
