use Rattle.std.proofs.Common.{chars, string_bytes, subst, sym, ap, ◌∙◌}
use Rattle.wax_token.specs.Words.{trees}
use Rattle.wax_facts.specs.Partition.{IsPartition, glob_up_to}
use Rattle.wax_facts.proofs.Partitions.{partition_branch, partition_orderly, partition_rest, partition_split}
use Rattle.wax_facts.proofs.Partitions.{partition_whole, split_partition}
use Rattle.wax_facts.proofs.parts.partition.Goals as goal

pub returns-clause-parts : goal.returns-clause-parts
returns-clause-parts c =
    let k : IsPartition c.args.token (chars (string_bytes c.in_ok-prefix.prefix))
    (glob_up_to c.in_ok-prefix.end _) =
    split_partition c.args.token (chars (string_bytes c.in_ok-prefix.prefix))
    (trees c.in_ok-prefix.tokens.items) c.in_ok-prefix.end c.in_ok-prefix.ensures in
    subst (IsPartition c.args.token (chars (string_bytes c.in_ok-prefix.prefix)))
    (sym (c.glob_up_to.ensures ∙ ap (glob_up_to c.in_ok-prefix.end) c.unrooted.ensures)) k

pub returns-clause-rest : goal.returns-clause-rest
returns-clause-rest c = partition_rest c.args.token (chars (string_bytes c.in_ok-prefix.prefix))
    c.glob_up_to.result (returns-clause-parts c)

pub returns-clause-split : goal.returns-clause-split
returns-clause-split c = partition_split c.args.token (chars (string_bytes c.in_ok-prefix.prefix))
    c.glob_up_to.result (returns-clause-parts c)

pub returns-clause-branch : goal.returns-clause-branch
returns-clause-branch c = partition_branch c.args.token (chars (string_bytes c.in_ok-prefix.prefix))
    c.glob_up_to.result (returns-clause-parts c)

pub returns-clause-whole : goal.returns-clause-whole
returns-clause-whole c = partition_whole c.args.token (chars (string_bytes c.in_ok-prefix.prefix))
    c.glob_up_to.result (returns-clause-parts c)

pub returns-clause-orderly : goal.returns-clause-orderly
returns-clause-orderly c = partition_orderly c.args.token (chars (string_bytes c.in_ok-prefix.prefix))
    c.glob_up_to.result (returns-clause-parts c)
