-- Forms that are passed over by their first letters.
use Rattle.std.proofs.Common.{◌≡◌, ℕ, zero, suc, ◌+◌, ◌<◌, ◌≤◌, Bool, true, false, List, [], ◌∷◌, length}
use Rattle.std.proofs.Common.{get_or, set, take, Some, slice_get, refl, sym, ◌∙◌, ap, subst, inl, inr, arith}
use Rattle.std.proofs.lemmas.List.{get_or-set_other, get_or-set_same, length-set}
use Rattle.std.proofs.lemmas.Bool.{cases_eq, cases_lt}
use Rattle.wax_lengths.specs.{Forms.{IsLetter, SpelledBy, TakenBy}, declared.form.Form.Form}
use Rattle.wax_lengths.specs.FirstLetters.{first_letter, group_of, is_folded, letter_of}
use Rattle.wax_lengths.proofs.Lists.{some_same}
use Rattle.wax_capture.specs.inner.Letters.{AreLinked, ArePassed, NoneBegins}
use Rattle.wax_lengths.specs.declared.form.Form.TheVariants as form

pub passed_more : (forms : List Form) (from k : ℕ) (f : Form) (s : List ℕ) → slice_get forms k ≡ Some f
    → ((n : ℕ) → TakenBy f (take n s) → ⊥) → ArePassed forms from k s → ArePassed forms from (k + 1) s
passed_more forms from k f s is fails passed j g le lt at n takes = elim (cases_lt j k) [
  | inl less ↦ passed j g le less at n takes
  | inr ge ↦
      let same : k ≡ j = omega (arith, lt, ge) in
      let one : f ≡ g = some_same (sym is ∙ subst (λ i. slice_get forms i ≡ Some g) (sym same) at) in
      fails n (subst (λ z. TakenBy z (take n s)) (sym one) takes)
]

pub passed_join : (forms : List Form) (from mid to : ℕ) (s : List ℕ) → ArePassed forms from mid s
    → ArePassed forms mid to s → ArePassed forms from to s
passed_join forms from mid to s first then k f le lt is n takes = elim (cases_lt k mid) [
  | inl less ↦ first k f le less is n takes
  | inr ge ↦ then k f ge lt is n takes
]

-- what a form of letters takes begins with a character of its first letter
pub begins_so : (f : Form) (l : ℕ) (x : List ℕ) → first_letter f ≡ Some l → TakenBy f x
    → (c : ℕ) × (y : List ℕ) × (x ≡ c ∷ y) × (l ≡ letter_of (is_folded f) c)
begins_so (form.One test) l x e h = absurd (cc)
begins_so (form.Text letters folded) l x e h = spelled folded letters.items x e h
  where
    is_letter : (f : Bool) (l c : ℕ) → IsLetter f l c → l ≡ letter_of f c
    is_letter false l c h = sym h
    is_letter true l c h = h

    spelled : (f : Bool) (ls x : List ℕ) → slice_get ls 0 ≡ Some l → SpelledBy f ls x
        → (c : ℕ) × (y : List ℕ) × (x ≡ c ∷ y) × (l ≡ letter_of f c)
    spelled f [] x e h = absurd (cc)
    spelled f (k ∷ ls) [] e h = absurd h
    spelled f (k ∷ ls) (d ∷ x) e h = (d, x, refl, sym (some_same e) ∙ is_letter f k d h.0)
begins_so form.Name l x e h = absurd (cc)
begins_so form.SlashOrNothing l x e h = absurd (cc)
begins_so (form.Tree sides rooted) l x e h = absurd (cc)
begins_so (form.Run test low high) l x e h = absurd (cc)
begins_so (form.Coded program) l x e h = absurd (cc)

module _ (forms : List Form) (folded : Bool) (firsts nexts : List ℕ)
    (links : AreLinked forms folded firsts nexts 0) where
  -- no form takes a beginning of an empty text
  pub passed_empty : (from to : ℕ) (s : List ℕ) → length s ≡ 0 → ArePassed forms from to s
  passed_empty from to [] none k f le lt is n takes =
      let (l, first, case) = links.lettered k f (omega arith) is in
      let (c, y, e, letter) = begins_so f l (take n []) first takes in
      absurd (differs n e)
    where
      differs : {c : ℕ} {y : List ℕ} (n : ℕ) → take n [] ≡ c ∷ y → ⊥
      differs zero e = cc
      differs (suc n) e = cc
  passed_empty from to (d ∷ s) none k f le lt is n takes = absurd (omega (arith, none))

  -- nor does one take a beginning of a text whose first letter is of another group
  pub passed_with : (from to d : ℕ) (s : List ℕ) → NoneBegins forms from to (group_of (letter_of folded d))
      → ArePassed forms from to (d ∷ s)
  passed_with from to d s none k f le lt is n takes =
      let (l, first, case) = links.lettered k f (omega arith) is in
      let (c, y, e, letter) = begins_so f l (take n (d ∷ s)) first takes in
      let same : l ≡ letter_of folded d = letter ∙ ap (λ z. letter_of z c) case
      ∙ ap (letter_of folded) (head n e) in
      none k l f le lt is first (ap group_of same)
    where
      head : {c : ℕ} {y : List ℕ} (n : ℕ) → take n (d ∷ s) ≡ c ∷ y → c ≡ d
      head zero e = absurd (cc)
      head (suc n) e = cc

-- one more form is linked
pub links_more : (forms : List Form) (folded : Bool) (firsts nexts : List ℕ) (i c old : ℕ) (f : Form)
    → AreLinked forms folded firsts nexts (i + 1) → i < length forms → slice_get forms i ≡ Some f
    → first_letter f ≡ Some c → is_folded f ≡ folded →
    group_of c < 128 → old ≡ get_or firsts (group_of c) 0
    → AreLinked forms folded (set firsts (group_of c) i) (set nexts i old) i
links_more forms folded firsts nexts i c old f links within is begins case small was = record {
  lettered = λ k g le at. elim (cases_eq k i) [
    | inl same ↦
        let one : f ≡ g = the_same k g same at in
        (c, subst (λ z. first_letter z ≡ Some c) one begins, subst (λ z. is_folded z ≡ folded) one case)
    | inr other ↦ links.lettered k g (omega (arith, le, other)) at
  ];
  first = first;
  next = next;
  all = length-set firsts group i ∙ links.all;
  each = length-set nexts i old ∙ links.each;
}
  where
    group : ℕ
    group = group_of c

    the_same : (k : ℕ) (g : Form) → k ≡ i → slice_get forms k ≡ Some g → f ≡ g
    the_same k g same at = some_same (sym is ∙ subst (λ j. slice_get forms j ≡ Some g) same at)

    letter : (k e : ℕ) (g : Form) → k ≡ i → slice_get forms k ≡ Some g → first_letter g ≡ Some e → e ≡ c
    letter k e g same at is_e =
        some_same (sym is_e ∙ subst (λ z. first_letter z ≡ Some c) (the_same k g same at) begins)

    first : (d : ℕ) → d < 128 → NoneBegins forms i (get_or (set firsts group i) d 0) d
    first d lt k e g le less at is_e in_d = elim (cases_eq d group) [
      | inl same ↦
          let here : get_or (set firsts group i) d 0 ≡ i =
          rw same (get_or-set_same firsts group i 0 (omega (arith, small, links.all))) in
          absurd (omega (arith, le, less, here))
      | inr other ↦
          let there : get_or (set firsts group i) d 0 ≡ get_or firsts d 0 =
          get_or-set_other firsts group d i 0 other in
          elim (cases_eq k i) [
            | inl same ↦ absurd (other (sym in_d ∙ ap group_of (letter k e g same at is_e)))
            | inr more ↦
                links.first d lt k e g (omega (arith, le, more)) (omega (arith, less, there)) at is_e in_d
          ]
    ]

    next : (k e : ℕ) (g : Form) → i ≤ k → slice_get forms k ≡ Some g → first_letter g ≡ Some e
        → NoneBegins forms (k + 1) (get_or (set nexts i old) k 0) (group_of e)
    next k e g le at is_e j d h after less is_at is_d in_e = elim (cases_eq k i) [
      | inl same ↦
          let here : get_or (set nexts i old) k 0 ≡ old =
          rw same (get_or-set_same nexts i old 0 (omega (arith, within, links.each))) in
          links.first group small j d h (omega (arith, after, same)) (omega (arith, less, here, was)) is_at
          is_d (in_e ∙ ap group_of (letter k e g same at is_e))
      | inr other ↦
          let there : get_or (set nexts i old) k 0 ≡ get_or nexts k 0 =
          get_or-set_other nexts i k old 0 other in
          links.next k e g (omega (arith, le, other)) at is_e j d h after
          (omega (arith, less, there)) is_at is_d in_e
    ]
