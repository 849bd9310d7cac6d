use Rattle.lin_rows.proofs.SizeLemmas.{product_is, fits_product, small_product}
use Rattle.lin_rows.proofs.summing.product.Goals as goal

pub returns-clause-value : goal.returns-clause-value
returns-clause-value c = product_is c.args.a c.args.b c.ranges.a c.ranges.b (fits_product c.args.a c.args.b c.requires.a_small c.requires.b_small)

pub returns-clause-size : goal.returns-clause-size
returns-clause-size c = rw (product_is c.args.a c.args.b c.ranges.a c.ranges.b (fits_product c.args.a c.args.b c.requires.a_small c.requires.b_small)) (small_product c.args.a c.args.b c.requires.a_small c.requires.b_small)
