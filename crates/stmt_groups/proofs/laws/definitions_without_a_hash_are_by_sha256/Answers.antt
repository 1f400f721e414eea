use Rattle.stmt_groups.proofs.HashLemmas.{covered_by_sha256, good_by_sha256, history_by_sha256, named_without, signed_by_sha256}
use Rattle.stmt_groups.proofs.laws.definitions_without_a_hash_are_by_sha256.Goals as goal

pub returns-clause-signed : goal.returns-clause-signed
returns-clause-signed c = signed_by_sha256

pub returns-clause-signings : goal.returns-clause-signings
returns-clause-signings c = history_by_sha256

pub returns-clause-good : goal.returns-clause-good
returns-clause-good c = good_by_sha256

pub returns-clause-covered : goal.returns-clause-covered
returns-clause-covered c = covered_by_sha256

pub returns-clause-named : goal.returns-clause-named
returns-clause-named c = named_without
