use Rattle.pg_script.specs.declared.kind.Kind.TheVariants as kinds
use Rattle.pg_script.proofs.ScriptLaws.{says, reads, refuses}
use Rattle.pg_script.proofs.reader.read_script.Goals as goal

pub returns-clause-says : goal.returns-clause-says
returns-clause-says c = says kinds.Memory c.read_limited.result c.args.text.now c.read_limited.ensures

pub returns-clause-reads : goal.returns-clause-reads
returns-clause-reads c = reads kinds.Memory c.read_limited.result c.args.text.now c.read_limited.ensures

pub returns-clause-refuses : goal.returns-clause-refuses
returns-clause-refuses c = refuses kinds.Memory c.read_limited.result c.args.text.now c.read_limited.ensures
