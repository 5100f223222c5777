use Rattle.wax_facts.proofs.{BuiltOrderly.built_orderly, ReadsFull.reads_full}
use Rattle.wax_facts.proofs.parts.built_is_orderly.Goals as goal

pub returns-clause-read : goal.returns-clause-read
returns-clause-read c = λ e reads. reads_full e c.args.token.now reads

pub returns-clause-built : goal.returns-clause-built
returns-clause-built c = λ first others reads kept. built_orderly first others c.args.token.now reads kept
