use Rattle.std.proofs.Common.{IfOk, Result, Ok, Err, chars, string_bytes, subst}
use Rattle.std.specs.Cow.{cow_str_bytes}
use Rattle.wax_partition.specs.Partition.{IsPartition, spelled_rest}
use Rattle.wax_partition.proofs.RestKeeps.{parts_keep}
use Rattle.wax_partition.proofs.RestKnown.{parts_branch, parts_fits, parts_orderly, parts_rest, parts_split}
use Rattle.wax_partition.proofs.RestKnown.{parts_whole}
use Rattle.wax_partition.proofs.parts.partition.Goals as goal

if_ok : {A E : Type 0} {P Q : A → Type 0} (r : Result A E) → ((x : A) → P x → Q x) → IfOk r P → IfOk r Q
if_ok (Ok x) f h = f x h
if_ok (Err e) f h = tt

pub returns-clause-parts : goal.returns-clause-parts
returns-clause-parts c =
    subst (λ p. IfOk c.parts.result
    (λ r. IsPartition (chars (cow_str_bytes p.0)) p.1 (chars (string_bytes r.0)) (spelled_rest r.1)))
    c.into_parts-expression.ensures c.parts.ensures

pub returns-clause-rest : goal.returns-clause-rest
returns-clause-rest c =
    if_ok c.parts.result (λ r k. parts_rest (chars (cow_str_bytes c.args.tokenized.expression))
    c.args.tokenized.token (chars (string_bytes r.0)) r.1 k) (returns-clause-parts c)

pub returns-clause-split : goal.returns-clause-split
returns-clause-split c =
    if_ok c.parts.result (λ r k. parts_split (chars (cow_str_bytes c.args.tokenized.expression))
    c.args.tokenized.token (chars (string_bytes r.0)) r.1 k) (returns-clause-parts c)

pub returns-clause-branch : goal.returns-clause-branch
returns-clause-branch c =
    if_ok c.parts.result (λ r k. parts_branch (chars (cow_str_bytes c.args.tokenized.expression))
    c.args.tokenized.token (chars (string_bytes r.0)) r.1 k) (returns-clause-parts c)

pub returns-clause-whole : goal.returns-clause-whole
returns-clause-whole c =
    if_ok c.parts.result (λ r k. parts_whole (chars (cow_str_bytes c.args.tokenized.expression))
    c.args.tokenized.token (chars (string_bytes r.0)) r.1 k) (returns-clause-parts c)

pub returns-clause-orderly : goal.returns-clause-orderly
returns-clause-orderly c =
    if_ok c.parts.result (λ r k. parts_orderly (chars (cow_str_bytes c.args.tokenized.expression))
    c.args.tokenized.token (chars (string_bytes r.0)) r.1 k) (returns-clause-parts c)

pub returns-clause-fits : goal.returns-clause-fits
returns-clause-fits c =
    if_ok c.parts.result (λ r k. parts_fits (chars (cow_str_bytes c.args.tokenized.expression))
    c.args.tokenized.token (chars (string_bytes r.0)) r.1 k) (returns-clause-parts c)

pub returns-clause-rules : goal.returns-clause-rules
returns-clause-rules c =
    if_ok c.parts.result (λ r k. parts_keep (chars (cow_str_bytes c.args.tokenized.expression))
    c.args.tokenized.token (chars (string_bytes r.0)) r.1 k) (returns-clause-parts c)
