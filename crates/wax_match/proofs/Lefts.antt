-- What is left of patterns: texts spelt out, wildcards, and the tokens after them.
use Rattle.std.proofs.Common.{◌≡◌, ℕ, zero, suc, ◌⊎◌, Bool, true, false, List, [], ◌∷◌, ◌++◌, not, chars}
use Rattle.std.proofs.Common.{length, nat_eq, get_or, take, drop, ◌≤◌, ◌-◌, Bor, refl, sym, ◌∙◌, ap, subst}
use Rattle.std.proofs.Common.{◌+◌, inl, inr, arith, append_assoc, append-nil, length-append}
use Rattle.std.proofs.{lemmas.List.take_all, lemmas.Bool.ne_eqb}
use Rattle.std.proofs.lemmas.Str.{chars-append, chars-encodes, chars-nil, encodes-IsAscii}
use Rattle.std.specs.Str.{IsAscii, IsUtf8}
use Rattle.wax_match.proofs.{Compiled.{both_from, both_to}, Lengths.{length-literal, length-tree}}
use Rattle.wax_match.specs.declared.encode.left.Gap.{Gap}
use Rattle.wax_match.specs.declared.encode.left.Gap.TheVariants.{Nothing, Folders, Below, Anything}
use Rattle.wax_match.specs.declared.encode.left.Lead.TheVariants.{Letters, Wild, Token}
use Rattle.wax_match.specs.declared.encode.left.Left.{Left}
use Rattle.wax_match.specs.inner.Left.{AreSame, GapMeans, IsAfter, Joined, LeftMeans, SpeltMeans}
use Rattle.wax_match.specs.inner.LeftCost.{left_cost}
use Rattle.wax_token.specs.{declared.token.sides.Sides.Sides, Cost.costs}
use Rattle.wax_token.specs.{Meaning.{Means, MeansEach, SameText, TreeMeans}, Reads.Span, Syntax.Tree}
use Rattle.wax_token.specs.Words.{trees}

pub slash_chars : chars (47 ∷ []) ≡ 47 ∷ []
slash_chars = ap chars (sym (encodes-IsAscii (47 ∷ []) slash_ascii)) ∙ chars-encodes (47 ∷ []) refl
  where
    slash_ascii : IsAscii (47 ∷ [])
    slash_ascii zero = omega arith
    slash_ascii (suc i) = omega arith

-- ---- what tokens spell
pub spelt_bare : (gap : Gap) → AreSame (SpeltMeans [] gap) (GapMeans gap)
spelt_bare gap = record {
  to = λ s h. subst (GapMeans gap) (sym (h.splits ∙ ap (λ z. z ++ h.taken) chars-nil)) h.means;
  from = λ s m. record { taken = s; splits = sym (ap (λ z. z ++ s) chars-nil); means = m };
}

spelt_slash : (gap : Gap) → AreSame (SpeltMeans (47 ∷ []) gap) (Joined (λ x. x ≡ 47 ∷ []) (GapMeans gap))
spelt_slash gap = record {
  to = λ s h. (47 ∷ [], h.taken, h.splits ∙ ap (λ z. z ++ h.taken) slash_chars, refl, h.means);
  from =
      λ s m. record { taken = m.1; splits = m.2 ∙ ap (λ z. z ++ m.1) (m.3 ∙ sym slash_chars); means = m.4 };
}

pub same_next : {P Q R : List ℕ → Type 0} → AreSame P Q → AreSame Q R → AreSame P R
same_next f g = record { to = λ s h. g.to s (f.to s h); from = λ s h. f.from s (g.from s h) }

tree_inner : (rooted : Bool) → AreSame (SpeltMeans (47 ∷ []) Folders) (TreeMeans true true rooted)
tree_inner rooted = same_next (spelt_slash Folders) (record {
  to = λ s h. both_from s h.0 h.1 h.2 h.3 h.4;
  from = λ s h. both_to s h.0.0 h.1.0 h.0.1 h.1.1;
})

tree_first : AreSame (SpeltMeans (47 ∷ []) Folders) (TreeMeans false true true)
tree_first = same_next (tree_inner true) (record { to = λ s h. h; from = λ s h. h })

tree_alone : AreSame (SpeltMeans (47 ∷ []) Anything) (TreeMeans false false true)
tree_alone = same_next (spelt_slash Anything) (record {
  to = λ s h. (h.1, h.2 ∙ ap (λ z. z ++ h.1) h.3);
  from = λ s h. (47 ∷ [], h.0, h.1, refl, tt);
})

at_sides : {P : List ℕ → Type 0} (b a r c d e : Bool) → b ≡ c → a ≡ d → r ≡ e → AreSame P (TreeMeans c d e)
    → AreSame P (TreeMeans b a r)
at_sides {P} b a r c d e p q w f =
    subst (λ z. AreSame P (TreeMeans z a r)) (sym p) (subst (λ z. AreSame P (TreeMeans c z r)) (sym q)
    (subst (λ z. AreSame P (TreeMeans c d z)) (sym w) f))

pub spelt_inner : (b a r : Bool) → b ≡ true → a ≡ true
    → AreSame (SpeltMeans (47 ∷ []) Folders) (TreeMeans b a r)
spelt_inner b a r p q = at_sides b a r true true r p q refl (tree_inner r)

below_any_root : (r : Bool) → AreSame (SpeltMeans [] Below) (TreeMeans true false r)
below_any_root r = same_next (spelt_bare Below) (record { to = λ s h. h; from = λ s h. h })

pub spelt_last : (b a r : Bool) → b ≡ true → a ≡ false → AreSame (SpeltMeans [] Below) (TreeMeans b a r)
spelt_last b a r p q = at_sides b a r true false r p q refl (below_any_root r)

pub spelt_first : (b a r : Bool) (text : List ℕ) → b ≡ false → a ≡ true
    → (r ≡ true) × (text ≡ 47 ∷ []) ⊎ (r ≡ false) × (text ≡ [])
    → AreSame (SpeltMeans text Folders) (TreeMeans b a r)
spelt_first b a r text p q (inl h) = at_sides b a r false true true p q h.0
    (subst (λ z. AreSame (SpeltMeans z Folders) (TreeMeans false true true)) (sym h.1) tree_first)
spelt_first b a r text p q (inr h) = at_sides b a r false true false p q h.0
    (subst (λ z. AreSame (SpeltMeans z Folders) (TreeMeans false true false)) (sym h.1) (spelt_bare Folders))

pub spelt_alone : (b a r : Bool) (text : List ℕ) → b ≡ false → a ≡ false
    → (r ≡ true) × (text ≡ 47 ∷ []) ⊎ (r ≡ false) × (text ≡ [])
    → AreSame (SpeltMeans text Anything) (TreeMeans b a r)
spelt_alone b a r text p q (inl h) = at_sides b a r false false true p q h.0
    (subst (λ z. AreSame (SpeltMeans z Anything) (TreeMeans false false true)) (sym h.1) tree_alone)
spelt_alone b a r text p q (inr h) = at_sides b a r false false false p q h.0 (subst
    (λ z. AreSame (SpeltMeans z Anything) (TreeMeans false false false)) (sym h.1) (spelt_bare Anything))

pub spelt_separator : AreSame (SpeltMeans (47 ∷ []) Nothing) (λ s. s ≡ 47 ∷ [])
spelt_separator = record {
  to = λ s h. h.splits ∙ ap (λ z. z ++ h.taken) slash_chars ∙ ap (λ z. 47 ∷ z) h.means;
  from = λ s m.
      record { taken = []; splits = m ∙ sym slash_chars ∙ sym (append-nil (chars (47 ∷ []))); means = refl };
}

pub text_to : (t s : List ℕ) → SameText false t s → s ≡ t
text_to [] [] h = refl
text_to [] (d ∷ s) h = absurd h
text_to (c ∷ t) [] h = absurd h
text_to (c ∷ t) (d ∷ s) h = let e : s ≡ t = text_to t s h.1 in let f : c ≡ d = h.0 in cc

pub text_from : (t : List ℕ) → SameText false t t
text_from [] = tt
text_from (c ∷ t) = (refl, text_from t)

pub spelt_literal : (text t : List ℕ) → chars text ≡ t → AreSame (SpeltMeans text Nothing) (SameText false t)
spelt_literal text t e = record {
  to = λ s h. subst (SameText false t)
      (sym (h.splits ∙ ap (λ z. chars text ++ z) h.means ∙ append-nil (chars text) ∙ e)) (text_from t);
  from = λ s m.
      record { taken = []; splits = text_to t s m ∙ sym e ∙ sym (append-nil (chars text)); means = refl };
}

-- ---- what is left after a first token, and before it
-- one token before others
each_more : (t : Tree Span) (ts : List (Tree Span)) (before after : Bool) → after ≡ not (nat_eq (length ts) 0)
    → AreSame (Joined (Means t before after) (MeansEach (trees ts) true false))
    (MeansEach (trees (t ∷ ts)) before false)
each_more t [] before after e = record {
  to = λ s h. subst (λ b. Means t before b s) e
      (subst (Means t before after) (sym (h.2 ∙ ap (λ z. h.0 ++ z) h.4 ∙ append-nil h.0)) h.3);
  from = λ s m. (s, [], sym (append-nil s), subst (λ b. Means t before b s) (sym e) m, refl);
}
each_more t (u ∷ us) before after e =
    let some : after ≡ true = e ∙ ap not (ne_eqb (length (u ∷ us)) 0 (λ z. absurd (omega (arith, z)))) in
    record {
      to = λ s h. (h.0, h.1, h.2, subst (λ b. Means t before b h.0) some h.3, h.4);
      from = λ s m. (m.0, m.1, m.2, subst (λ b. Means t before b m.0) (sym some) m.3, m.4);
    }

pub head_rest : (ts : List (Tree Span)) (t : Tree Span) → 1 ≤ length ts → t ≡ get_or ts 0 t
    → t ∷ take (length ts - 1) (drop 1 ts) ≡ ts
head_rest [] t le at = absurd (omega (arith, le))
head_rest (u ∷ us) t le at =
    let n : length (u ∷ us) - 1 ≡ length us = omega arith in
    ap (λ z. z ∷ take (length (u ∷ us) - 1) us) at ∙ ap (λ k. u ∷ take k us) n
    ∙ ap (λ z. u ∷ z) (take_all (length us) us (omega arith))

-- a first token that was spelt out
pub left_spelt : (l : Left) (t : Tree Span) (ts : List (Tree Span)) (before after : Bool)
    → AreSame (SpeltMeans l.text.now l.gap) (Means t before after) → l.before ≡ true
    → after ≡ not (nat_eq (length l.tokens.now) 0) → t ∷ l.tokens.now ≡ ts
    → AreSame (LeftMeans l) (MeansEach (trees ts) before false)
left_spelt l t ts before after f is e same =
    subst (λ z. AreSame (LeftMeans l) (MeansEach (trees z) before false)) same (same_next (record {
      to = λ s h. (
        h.front,
        h.back,
        h.splits,
        f.to h.front h.spelt,
        subst (λ b. MeansEach (trees l.tokens.now) b false h.back) is h.means,
      );
      from = λ s m. record {
        front = m.0;
        back = m.1;
        splits = m.2;
        spelt = f.from m.0 m.3;
        means = subst (λ b. MeansEach (trees l.tokens.now) b false m.1) (sym is) m.4;
      };
    }) (each_more t l.tokens.now before after e))

no_chars : (text : List ℕ) → text ≡ [] → chars text ≡ []
no_chars text e = ap chars e ∙ chars-nil

-- no text, and no wildcard
pub left_plain : (l : Left) → l.text.now ≡ [] → l.gap ≡ Nothing
    → AreSame (LeftMeans l) (MeansEach (trees l.tokens.now) l.before false)
left_plain l bare nothing = record {
  to = λ s h.
      let taken : h.spelt.taken ≡ [] = subst (λ g. GapMeans g h.spelt.taken) nothing h.spelt.means in
      let front : h.front ≡ [] =
      h.spelt.splits ∙ ap (λ z. z ++ h.spelt.taken) (no_chars l.text.now bare) ∙ taken in
      subst (MeansEach (trees l.tokens.now) l.before false)
      (sym (h.splits ∙ ap (λ z. z ++ h.back) front)) h.means;
  from = λ s m. record {
    front = [];
    back = s;
    splits = refl;
    spelt = record {
      taken = [];
      splits = sym (ap (λ z. z ++ []) (no_chars l.text.now bare));
      means = subst (λ g. GapMeans g []) (sym nothing) refl;
    };
    means = m;
  };
}

-- no text before a wildcard
bare_gap : (l : Left) → l.text.now ≡ [] → AreSame (SpeltMeans l.text.now l.gap) (GapMeans l.gap)
bare_gap l bare = subst (λ z. AreSame (SpeltMeans z l.gap) (GapMeans l.gap)) (sym bare) (spelt_bare l.gap)

pub left_ending : (l : Left) → l.text.now ≡ [] → l.tokens.now ≡ [] → AreSame (LeftMeans l) (GapMeans l.gap)
left_ending l bare ended =
    let f = bare_gap l bare in
    record {
      to = λ s h.
          let back : h.back ≡ [] = subst (λ ts. MeansEach (trees ts) l.before false h.back) ended h.means in
          subst (GapMeans l.gap) (sym (h.splits ∙ ap (λ z. h.front ++ z) back ∙ append-nil h.front))
          (f.to h.front h.spelt);
      from = λ s m. record {
        front = s;
        back = [];
        splits = sym (append-nil s);
        spelt = f.from s m;
        means = subst (λ ts. MeansEach (trees ts) l.before false []) (sym ended) refl;
      };
    }

-- ---- what comes after a lead
joined_same : {P Q R : List ℕ → Type 0} → AreSame Q R → AreSame (Joined P Q) (Joined P R)
joined_same f = record {
  to = λ s h. (h.0, h.1, h.2, h.3, f.to h.1 h.4);
  from = λ s h. (h.0, h.1, h.2, h.3, f.from h.1 h.4);
}

pub same_back : {P Q : List ℕ → Type 0} → AreSame P Q → AreSame Q P
same_back f = record { to = f.from; from = f.to }

pub after_wild : (l after : Left) → l.text.now ≡ [] → after.number ≡ l.number
    → AreSame (LeftMeans after) (MeansEach (trees l.tokens.now) l.before false)
    → left_cost after ≤ costs (trees l.tokens.now) + 2 → IsAfter (Wild l.gap) l after
after_wild l after bare number f few =
    let g = bare_gap l bare in
    record {
      number = number;
      fits = omega (arith, few);
      means = record {
        to = λ s h. (h.front, h.back, h.splits, g.to h.front h.spelt, f.from h.back h.means);
        from = λ s m.
            record { front = m.0; back = m.1; splits = m.2; spelt = g.from m.0 m.3; means = f.to m.1 m.4 };
      };
    }

pub after_token : (l after : Left) (token : Bor (Tree Span)) (rest : List (Tree Span)) (sides : Sides)
    → l.text.now ≡ [] → l.gap ≡ Nothing → token.now ∷ rest ≡ l.tokens.now
    → sides.before ≡ l.before → sides.after ≡ not (nat_eq (length rest) 0) → after.number ≡ l.number
    → AreSame (LeftMeans after) (MeansEach (trees rest) true false)
    → left_cost after ≤ costs (trees rest) + 2 → IsAfter (Token token sides) l after
after_token l after token rest sides bare nothing same before e number f few = record {
  number = number;
  fits = omega (
    arith,
    few,
    ap (λ ts. costs (trees ts)) same,
    length-tree token.now sides.before sides.after,
  );
  means =
      let each : AreSame (LeftMeans l) (MeansEach (trees (token.now ∷ rest)) sides.before false) =
      subst (λ b. AreSame (LeftMeans l) (MeansEach (trees (token.now ∷ rest)) b false)) (sym before)
      (subst (λ ts. AreSame (LeftMeans l) (MeansEach (trees ts) l.before false)) (sym same)
      (left_plain l bare nothing)) in
      same_next each (same_next (same_back (each_more token.now rest sides.before sides.after e))
      (joined_same (same_back f)));
}

-- the text parted
pub after_letters : (l after : Left) (front back : Bor (List ℕ)) → IsUtf8 front.now
    → l.text.now ≡ front.now ++ back.now → after.number ≡ l.number
    → AreSame (LeftMeans after) (LeftMeans (record l { text = back }))
    → left_cost after ≤ left_cost (record l { text = back }) → IsAfter (Letters front) l after
after_letters l after front back utf8 parts number f few =
    let whole : chars l.text.now ≡ chars front.now ++ chars back.now =
    ap chars parts ∙ chars-append front.now back.now utf8 in
    record {
      number = number;
      fits = omega (
        arith,
        few,
        ap length whole,
        length-append (chars front.now) (chars back.now),
        length-literal false (chars front.now),
      );
      means = same_next (record {
        to = λ s h.
            let splits : h.front ≡ chars front.now ++ (chars back.now ++ h.spelt.taken) =
            h.spelt.splits ∙ ap (λ z. z ++ h.spelt.taken) whole
            ∙ append_assoc (chars front.now) (chars back.now) h.spelt.taken in (
              chars front.now,
              (chars back.now ++ h.spelt.taken) ++ h.back,
              h.splits ∙ ap (λ z. z ++ h.back) splits
                  ∙ append_assoc (chars front.now) (chars back.now ++ h.spelt.taken) h.back,
              refl,
              record {
                front = chars back.now ++ h.spelt.taken;
                back = h.back;
                splits = refl;
                spelt = record { taken = h.spelt.taken; splits = refl; means = h.spelt.means };
                means = h.means;
              },
            );
        from = λ s m. letters_back l front back whole s m.0 m.1 m.2 m.3 m.4;
      }) (joined_same (same_back f));
    }
  where
    letters_back : (l : Left) (front back : Bor (List ℕ)) → chars l.text.now
        ≡ chars front.now ++ chars back.now → (s x y : List ℕ) → s ≡ x ++ y → x ≡ chars front.now
        → LeftMeans (record l { text = back }) y → LeftMeans l s
    letters_back l front back whole s x y e is h = record {
      front = chars front.now ++ h.front;
      back = h.back;
      splits = e ∙ ap (λ z. z ++ y) is ∙ ap (λ z. chars front.now ++ z) h.splits
          ∙ sym (append_assoc (chars front.now) h.front h.back);
      spelt = record {
        taken = h.spelt.taken;
        splits = ap (λ z. chars front.now ++ z) h.spelt.splits
            ∙ sym (append_assoc (chars front.now) (chars back.now) h.spelt.taken)
            ∙ ap (λ z. z ++ h.spelt.taken) (sym whole);
        means = h.spelt.means;
      };
      means = h.means;
    }

-- the rest of the text, and what is left if nothing of it is
pub without_text : (l after : Left) (text : Bor (List ℕ)) → text.now ≡ [] → l.gap ≡ Nothing
    → AreSame (LeftMeans after) (MeansEach (trees l.tokens.now) l.before false)
    → AreSame (LeftMeans after) (LeftMeans (record l { text = text }))
without_text l after text bare nothing f =
    same_next f (same_back (left_plain (record l { text = text }) bare nothing))
