use Rattle.std.proofs.Common.{◌∙◌}
use Rattle.constriction_coders.proofs.Filling.{all-filled}
use Rattle.constriction_coders.proofs.side_by_side.decode_two.Goals as goal

pub returns-in-Err : goal.returns-in-Err
returns-in-Err g c = record {
  first_goes_on = c.in-Err.ensures.first_goes_on;
  second_goes_on = c.in-Err.ensures.second_goes_on;
  first_length = c.in-Err.ensures.first_length;
  second_length = c.in-Err.ensures.second_length;
  first_ok = tt;
  second_ok = tt;
  err = c.in-Err.ensures.err;
}

pub returns-in-Ok-decode_rest-2 : goal.returns-in-Ok-decode_rest-2
returns-in-Ok-decode_rest-2 g c = record {
  first_goes_on = c.in-Ok-decode_rest.ensures.goes_on;
  second_goes_on = c.in-Ok-decode_rest-2.ensures.goes_on;
  first_length = c.in-Ok-decode_rest.ensures.length ∙ c.in-Ok.ensures.first_length;
  second_length = c.in-Ok-decode_rest-2.ensures.length ∙ c.in-Ok.ensures.second_length;
  first_ok = c.in-Ok-decode_rest.ensures.ok _ _ c.in-Ok.ensures.first_ok;
  second_ok = c.in-Ok-decode_rest-2.ensures.ok _ _ c.in-Ok.ensures.second_ok;
  err = tt;
}

pub returns-in-Err-decode_rest : goal.returns-in-Err-decode_rest
returns-in-Err-decode_rest g c = record {
  first_goes_on = c.in-Err-decode_rest.ensures.goes_on;
  second_goes_on = c.in-Ok.ensures.second_goes_on;
  first_length = c.in-Err-decode_rest.ensures.length ∙ c.in-Ok.ensures.first_length;
  second_length = c.in-Ok.ensures.second_length;
  first_ok = tt;
  second_ok = tt;
  err = (c.in-Err-decode_rest.ensures.err _ _ c.in-Ok.ensures.first_ok, c.in-Ok.ensures.second_ok.0);
}

pub returns-in-Err-decode_rest-2 : goal.returns-in-Err-decode_rest-2
returns-in-Err-decode_rest-2 g c = record {
  first_goes_on = c.in-Ok-decode_rest.ensures.goes_on;
  second_goes_on = c.in-Err-decode_rest-2.ensures.goes_on;
  first_length = c.in-Ok-decode_rest.ensures.length ∙ c.in-Ok.ensures.first_length;
  second_length = c.in-Err-decode_rest-2.ensures.length ∙ c.in-Ok.ensures.second_length;
  first_ok = tt;
  second_ok = tt;
  err = (
    c.in-Err-decode_rest-2.ensures.err _ _ c.in-Ok.ensures.second_ok,
    all-filled g.A.Code.held _ c.args.first.now c.decode_rest.new.symbols _ c.decode_rest.new.coder
        (c.in-Ok-decode_rest.ensures.length ∙ c.in-Ok.ensures.first_length)
        (c.in-Ok-decode_rest.ensures.ok _ _ c.in-Ok.ensures.first_ok),
  );
}
