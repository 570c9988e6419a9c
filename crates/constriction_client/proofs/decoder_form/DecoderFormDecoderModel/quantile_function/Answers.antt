use Rattle.constriction_client.proofs.decoder_form.DecoderFormDecoderModel.quantile_function.Goals as goal

pub returns-in-Search-clause-refused : goal.returns-in-Search-clause-refused
returns-in-Search-clause-refused g c = rw c.in-Search.is c.quantile_function.ensures.refused

pub returns-in-Lookup-clause-refused : goal.returns-in-Lookup-clause-refused
returns-in-Lookup-clause-refused g c = rw c.in-Lookup.is c.quantile_function-in-Lookup.ensures.refused
