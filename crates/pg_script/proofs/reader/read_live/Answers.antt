use Rattle.pg_script.specs.declared.kind.Kind.TheVariants as kinds
use Rattle.pg_script.specs.Scripts.{as_script}
use Rattle.pg_script.proofs.ScriptLaws.{says, reads, refuses}
use Rattle.pg_script.proofs.reader.read_live.Goals as goal

pub returns-clause-says : goal.returns-clause-says
returns-clause-says c = says kinds.Live (as_script c.read_steps.result) c.args.text.now c.read_steps.ensures

pub returns-clause-reads : goal.returns-clause-reads
returns-clause-reads c = reads kinds.Live (as_script c.read_steps.result) c.args.text.now c.read_steps.ensures

pub returns-clause-refuses : goal.returns-clause-refuses
returns-clause-refuses c = refuses kinds.Live (as_script c.read_steps.result) c.args.text.now c.read_steps.ensures
