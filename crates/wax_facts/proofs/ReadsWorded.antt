-- The literals of an expression that is not empty.
use Rattle.std.proofs.Common.{Bool, List, false, true, ℕ, ◌∷◌}
use Rattle.wax_token.specs.Reads.{Around, Place, Reads, ReadsBranches, ReadsGlob, ReadsLeaf, ReadsToken}
use Rattle.wax_token.specs.Reads.{ReadsTokens, Span, in_alternation, in_repetition, start, whole}
use Rattle.wax_token.specs.Syntax.{Leaf, Tree, Trees, alternation, class, concatenation, leaf, literal, more}
use Rattle.wax_token.specs.Syntax.{none, one, repetition, separator, tree, zero_or_more}
use Rattle.wax_facts.specs.Orderly.{Worded, WordedEach, WordedLeaf}

leaf_worded : (l : Leaf) (around : Around) (first : Bool) (p q : Place)
    → ReadsLeaf around first l p q → WordedLeaf l
leaf_worded (literal i t) around first p q h = h.1
leaf_worded (class n xs) around first p q h = tt
leaf_worded separator around first p q h = tt
leaf_worded one around first p q h = tt
leaf_worded (zero_or_more v) around first p q h = tt
leaf_worded (tree rooted) around first p q h = tt

module _ (size : ℕ) where
  mutual
    token_worded : (t : Tree Span) (around : Around) (first : Bool) (p q : Place)
        → ReadsToken size t around first p q → Worded t
    token_worded (leaf s l) around first p q h = leaf_worded l around first h.0 q h.2
    token_worded (alternation s ts) around first p q h = branches_worded ts h.1 h.2 h.5
    token_worded (repetition s t low high) around first p q h = glob_worded t in_repetition h.1 h.2 h.6
    token_worded (concatenation s ts) around first p q h = absurd h

    tokens_worded : (ts : Trees Span) (around : Around) (first : Bool) (p q : Place)
        → ReadsTokens size ts around first p q → WordedEach ts
    tokens_worded none around first p q h = tt
    tokens_worded (more t ts) around first p q h =
        (token_worded t around first p h.0 h.1, tokens_worded ts around false h.0 q h.2)

    glob_worded : (t : Tree Span) (around : Around) (p q : Place) → ReadsGlob size t around p q → Worded t
    glob_worded (concatenation s ts) around p q h = tokens_worded ts around true p q h.1
    glob_worded (leaf s l) around p q h = absurd h
    glob_worded (alternation s ts) around p q h = absurd h
    glob_worded (repetition s t low high) around p q h = absurd h

    branches_worded : (ts : Trees Span) (p q : Place) → ReadsBranches size ts p q → WordedEach ts
    branches_worded none p q h = tt
    branches_worded (more t none) p q h = (glob_worded t in_alternation p q h, tt)
    branches_worded (more t (more u us)) p q h =
        (glob_worded t in_alternation p h.0 h.2, branches_worded (more u us) h.1 q h.4)

pub reads_worded : (c : ℕ) (cs : List ℕ) (t : Tree Span) → Reads (c ∷ cs) t → Worded t
reads_worded c cs t h = glob_worded _ t whole (start (c ∷ cs)) h.1 h.2
