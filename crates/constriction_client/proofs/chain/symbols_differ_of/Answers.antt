use Rattle.constriction_client.proofs.chain.symbols_differ_of.Goals as goal

pub returns : goal.returns
returns g c = c.requires c.args.form.now
