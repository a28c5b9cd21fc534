use Rattle.kl_entry.proofs.Cuts.{lines_cut, lines_whole}
use Rattle.kl_entry.proofs.listing.lines.Goals as goal

pub returns-clause-cut : goal.returns-clause-cut
returns-clause-cut c = lines_cut c.args.text.now

pub returns-clause-whole : goal.returns-clause-whole
returns-clause-whole c = lines_whole c.args.text.now
