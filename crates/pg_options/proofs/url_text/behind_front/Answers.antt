use Rattle.pg_options.proofs.UrlTextLaws.{cut_front}
use Rattle.pg_options.proofs.url_text.behind_front.Goals as goal

pub returns : goal.returns
returns c = cut_front c.strip_prefix.result c.args.front.now c.args.text.now c.strip_prefix.ensures.cases
