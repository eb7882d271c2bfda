-- A reader of the `csv` crate that takes each record unchanged.
use Rattle.std.specs.Prelude.{◌≡◌, true, ◌⊎◌}
use Rattle.csv.specs.Reading.{Ready, default_config, has_failed, is_flexible, reader_config, reader_trim}
use Rattle.csv.specs.declared.reader.Reader.{Reader}
use Rattle.csv.specs.declared.reader.Trim.TheVariants as trim

-- A reader of bytes with the default settings, which takes each record unchanged.
pub record IsPlain {R : Type 0} (r : Reader R) : Type 0 where
  pub config : reader_config r ≡ default_config
  pub trim : reader_trim r ≡ trim.None
  pub flexible : is_flexible r ≡ true
  pub ready : Ready r

abbrev pub IsPlainUnlessFailed : {R : Type 0} → Reader R → Type 0
IsPlainUnlessFailed r = (has_failed r ≡ true) ⊎ IsPlain r
