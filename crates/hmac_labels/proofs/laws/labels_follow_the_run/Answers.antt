use Rattle.hmac_labels.proofs.Runs.{follow-run}
use Rattle.hmac_labels.proofs.laws.labels_follow_the_run.Goals as goal

pub returns : goal.returns
returns c = follow-run
