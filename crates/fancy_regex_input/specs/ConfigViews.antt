-- The configuration of a search, by the fields that hold it.
use Rattle.std.specs.Prelude.{◌≡◌, Bool, true, false, not, max, Some, None, is_some, if◌then◌else◌, refl}
use Rattle.std.proofs.Common.{sym}
use Rattle.fancy_regex_input.specs.declared.config.SearchConfig.TheInside.{Inside}
use Rattle.fancy_regex_input.specs.Configs.{Config}

abbrev pub config_of : Inside → Config
config_of a = record {
  start = a.start;
  range_start = a.input.range.start;
  range_end = a.input.range.end;
  anchored = a.input.anchored;
  start_text = not a.input.no_start_text;
  end_text = not a.input.no_end_text;
  continues = is_some a.input.continue_at;
}

-- The first start of the engine's input is the later of the start and the start of the range, and `\G` holds there, if anywhere.
pub record IsUpToDate (a : Inside) : Type 0 where
  pub first : a.input.first ≡ max a.start a.input.range.start
  pub continue_at : a.input.continue_at ≡ (if is_some a.input.continue_at then Some (max a.start a.input.range.start) else None)

-- the fields that hold a configuration
abbrev pub inside_of : Config → Inside
inside_of config = record {
  start = config.start;
  input = record {
    first = max config.start config.range_start;
    continue_at = if config.continues then Some (max config.start config.range_start) else None;
    range = record { start = config.range_start; end = config.range_end };
    anchored = config.anchored;
    no_start_text = not config.start_text;
    no_end_text = not config.end_text;
  };
}

not-not : (b : Bool) → not (not b) ≡ b
not-not true = refl
not-not false = refl

pub inside_same : (a : Inside) → IsUpToDate a → inside_of (config_of a) ≡ a
inside_same a h = λ i. record {
  start = a.start;
  input = record {
    first = sym h.first i;
    continue_at = sym h.continue_at i;
    range = a.input.range;
    anchored = a.input.anchored;
    no_start_text = not-not a.input.no_start_text i;
    no_end_text = not-not a.input.no_end_text i;
  };
}
