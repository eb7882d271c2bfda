use Rattle.std.proofs.Common.{codes, inl}
use Rattle.oim_json.specs.declared.layout.Layout.TheVariants as layouts
use Rattle.oim_run.specs.Buffers.{Buffered}
use Rattle.oim_run.specs.Runs.{EndsOver}
use Rattle.oim_run.proofs.Endings.{over_texts, over_same}
use Rattle.oim_run.proofs.Waiting.{keeps_same}
use Rattle.oim_run.proofs.built_in.convert_to.Goals as goal

pub returns-in_default : goal.returns-in_default
returns-in_default g c = inl (c.no_memory.ensures, keeps_same (g.W.Write.contents c.args.to))

pub returns : goal.returns
returns g c =
    over_texts
    (record { ref_ptr = (c.files-1.given.0, 0); now = codes "meta.json" }) (record { ref_ptr = (c.files-3-1.given.0, 0); now = codes "types.csv" })
    (record { ref_ptr = (c.files-5-1.given.0, 0); now = codes "t1.csv" }) c.as_bytes.result c.as_bytes-2.result c.as_bytes-3.result _ _ _ (λ files. Buffered (EndsOver files (codes "meta.json") (codes "types.csv") 1 1 layouts.Compact) (g.W.Write.contents c.args.to) (g.W.Write.contents c.run_to.result.1) c.run_to.result.0)
    c.as_bytes.ensures.value c.as_bytes-2.ensures.value c.as_bytes-3.ensures.value
    (over_same _ _ _ _ _ _ _ _ _ _ _ _ _ _ c.in-Ok.ensures.paths c.in-Ok.ensures.others c.run_to.ensures.0)
