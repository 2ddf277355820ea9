use Rattle.case_tools.proofs.DialLaws.{one_more}
use Rattle.case_tools.proofs.links.push_link.Goals as goal

pub returns : goal.returns
returns c = rw c.in_ok-push_back.ensures.items (one_more c.args.links.now.items c.args.link c.requires.links c.requires.link)
