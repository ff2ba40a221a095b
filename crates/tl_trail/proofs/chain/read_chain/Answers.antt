use Rattle.tl_trail.specs.Chains.{chain_in}
use Rattle.tl_trail.proofs.OneChain.{only_chain}
use Rattle.tl_trail.proofs.chain.read_chain.Goals as goal

pub returns-clause-taken : goal.returns-clause-taken
returns-clause-taken c = λ ts is. only_chain c.args.limit (λ v. v.items) (chain_in c.args.text.now) c.chain_of_text.result ts c.chain_of_text.ensures.ok c.chain_of_text.ensures.fault is
