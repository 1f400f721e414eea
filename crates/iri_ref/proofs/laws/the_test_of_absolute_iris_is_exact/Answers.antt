use Rattle.iri_ref.proofs.Absolute.{is_absolute-exact}
use Rattle.iri_ref.proofs.laws.the_test_of_absolute_iris_is_exact.Goals as goal

pub returns : goal.returns
returns c = is_absolute-exact
