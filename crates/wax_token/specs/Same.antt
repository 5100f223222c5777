-- Whether two values with codes are the same, as a truth value.
use Rattle.std.specs.{Prelude.{◌≡◌, Bool, true, false, ◌&&◌, nat_eq}, Bool.Decides}
use Rattle.std.specs.Cmp.{IsEquivalence, and_equiv, decided, on_equiv, unsigned_Decides}
use Rattle.std.specs.{Cmp.Lexicographic.{nat_list_eq_equiv, pointwise}, Coded.{Coded, coded_ℕ, coded×}}
use Rattle.std.specs.{Cow.cow_str_bytes, Ordering.{eq_of_both, on}}
use Rattle.std.proofs.{Common.{ap, refl}, lemmas.Bool.{and_from, and_parts}}
use base.Stored.{Gv, gnil, gnum, gcons, num}
use Rattle.wax_token.specs.{Reads.Span, Syntax.Tree, TreeCode.{head, tail, tree_code}}
use Rattle.wax_token.specs.declared.token.Tokenized.{Tokenized}

abbrev pub same_code : Gv → Gv → Bool
same_code gnil gnil = true
same_code gnil (gnum n) = false
same_code gnil (gcons c d) = false
same_code (gnum m) gnil = false
same_code (gnum m) (gnum n) = nat_eq m n
same_code (gnum m) (gcons c d) = false
same_code (gcons a b) gnil = false
same_code (gcons a b) (gnum n) = false
same_code (gcons a b) (gcons c d) = same_code a c && same_code b d

abbrev pub is_same : {A : Type 0} → Coded A → A → A → Bool
is_same c x y = same_code (c.code x) (c.code y)

same_codes : (g h : Gv) → Decides (same_code g h) (g ≡ h)
same_codes gnil gnil = (λ e. refl, λ e. refl)
same_codes gnil (gnum n) = (λ e. absurd (cc), λ e. absurd (cc))
same_codes gnil (gcons c d) = (λ e. absurd (cc), λ e. absurd (cc))
same_codes (gnum m) gnil = (λ e. absurd (cc), λ e. absurd (cc))
same_codes (gnum m) (gnum n) =
    (λ e. ap gnum ((unsigned_Decides m n).0 e), λ e. (unsigned_Decides m n).1 (ap num e))
same_codes (gnum m) (gcons c d) = (λ e. absurd (cc), λ e. absurd (cc))
same_codes (gcons a b) gnil = (λ e. absurd (cc), λ e. absurd (cc))
same_codes (gcons a b) (gnum n) = (λ e. absurd (cc), λ e. absurd (cc))
same_codes (gcons a b) (gcons c d) =
    let first = same_codes a c in
    let second = same_codes b d in (
      λ e. let both = and_parts (same_code a c) (same_code b d) e in
          (λ i. gcons (first.0 both.0 i) (second.0 both.1 i)),
      λ e. and_from (same_code a c) (same_code b d) (first.1 (ap head e)) (second.1 (ap tail e)),
    )

-- it is true exactly of a value and itself
pub same_decides : {A : Type 0} (c : Coded A) (x y : A) → Decides (is_same c x y) (x ≡ y)
same_decides c x y =
    let told = same_codes (c.code x) (c.code y) in
    (λ e. c.inj x y (told.0 e), λ e. told.1 (ap c.code e))

pub same_equiv : {A : Type 0} (c : Coded A) → IsEquivalence (is_same c)
same_equiv c = decided (is_same c) (same_decides c)

-- trees with their spans
abbrev pub is_same_tree : Tree Span → Tree Span → Bool
is_same_tree = is_same (tree_code (coded× coded_ℕ coded_ℕ))

pub same_tree_equiv : IsEquivalence is_same_tree
same_tree_equiv = same_equiv (tree_code (coded× coded_ℕ coded_ℕ))

-- expressions with their trees
abbrev pub is_same_expression : Tokenized Span → Tokenized Span → Bool
is_same_expression =
    eq_of_both (on (λ u. cow_str_bytes u.expression) (pointwise nat_eq)) (on (λ u. u.token) is_same_tree)

pub same_expression_equiv : IsEquivalence is_same_expression
same_expression_equiv =
    and_equiv (on_equiv (λ u. cow_str_bytes u.expression) nat_list_eq_equiv)
    (on_equiv (λ u. u.token) same_tree_equiv)
