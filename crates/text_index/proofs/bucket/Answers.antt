-- `bucket`: the chain hashes byte by byte.
use native.Mathlib.Omega.{arith}
use Rattle.std.proofs.Common.{rules}
use borrow.Author.Tests.{tests}
use Rattle.std.proofs.lemmas.Iterator.{YieldsList-from_slice}
use Rattle.std.proofs.lemmas.Iterator.Consumers.{fold_from_yields_List}
use Rattle.text_index.proofs.Buckets.{hash_step, bucket_hash}
use Rattle.text_index.proofs.bucket.Goals as goal

pub returns : goal.returns
returns c =
    let t = c.args.text.now in
    let k = c.fold-hash.result in
    (bucket_hash t k (fold_from_yields_List _ hash_step 0 k c.fold-hash.ensures.ran (YieldsList-from_slice t cc) (λ a x b q w. search (rules, tests))), omega arith)
