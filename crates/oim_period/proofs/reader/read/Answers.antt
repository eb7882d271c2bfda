use Rattle.std.proofs.Common.{◌≡◌, ◌++◌, Some, None, sym, ◌∙◌, ap, codes, inl, inr}
use Rattle.std.proofs.lemmas.Slice.Eq.{strip_suffix_is}
use Rattle.std.proofs.lemmas.Bool.Decides.{Decides-eqb}
use Rattle.oim_period.specs.Periods.{instant, duration}
use Rattle.oim_period.specs.Table.{at_start, at_end, moment, span}
use Rattle.oim_period.proofs.Ends.{of_start, of_end, of_plain, not_moment, length-moment}
use Rattle.oim_period.proofs.Found.{same_only}
use Rattle.oim_period.proofs.FoundPeriods.{period_of_exact}
use Rattle.oim_period.proofs.reader.read.Goals as goal

pub returns-in_err-span-clause-exact : goal.returns-in_err-span-clause-exact
returns-in_err-span-clause-exact c =
    let whole : c.as_bytes-bytes.result.now ≡ c.in-Some.whole.now ++ codes "@start" =
    strip_suffix_is Decides-eqb c.as_bytes-bytes.result.now (codes "@start") (Some c.in-Some.whole) c.in-Some.ensures.cases in
    let e = sym c.as_bytes-bytes.ensures.value ∙ whole in
    rw c.from_residual.ensures (λ r m. let i = of_start m _ e in c.in_err-span.ensures (i.0, i.1) i.2)

pub returns-in-Some-clause-exact : goal.returns-in-Some-clause-exact
returns-in-Some-clause-exact c =
    let whole : c.as_bytes-bytes.result.now ≡ c.in-Some.whole.now ++ codes "@start" =
    strip_suffix_is Decides-eqb c.as_bytes-bytes.result.now (codes "@start") (Some c.in-Some.whole) c.in-Some.ensures.cases in
    let e = sym c.as_bytes-bytes.ensures.value ∙ whole in
    let h = c.in_ok-span.ensures in
    (rw e (at_start c.in-Some.whole.now _ _ h.0), λ r m. let i = of_start m _ e in i.3 ∙ ap (λ p. instant p.0) (h.1 (i.0, i.1) i.2))

pub returns-in_err-span-2-clause-exact : goal.returns-in_err-span-2-clause-exact
returns-in_err-span-2-clause-exact c =
    let whole : c.as_bytes-bytes.result.now ≡ c.in-Some-strip_suffix.whole.now ++ codes "@end" =
    strip_suffix_is Decides-eqb c.as_bytes-bytes.result.now (codes "@end") (Some c.in-Some-strip_suffix.whole) c.in-Some-strip_suffix.ensures.cases in
    let e = sym c.as_bytes-bytes.ensures.value ∙ whole in
    rw c.from_residual-in_err-span-2.ensures (λ r m. let i = of_end m _ e in c.in_err-span-2.ensures (i.0, i.1) i.2)

pub returns-in-Some-strip_suffix-clause-exact : goal.returns-in-Some-strip_suffix-clause-exact
returns-in-Some-strip_suffix-clause-exact c =
    let whole : c.as_bytes-bytes.result.now ≡ c.in-Some-strip_suffix.whole.now ++ codes "@end" =
    strip_suffix_is Decides-eqb c.as_bytes-bytes.result.now (codes "@end") (Some c.in-Some-strip_suffix.whole) c.in-Some-strip_suffix.ensures.cases in
    let e = sym c.as_bytes-bytes.ensures.value ∙ whole in
    let h = c.in_ok-span-2.ensures in
    (rw e (at_end c.in-Some-strip_suffix.whole.now _ _ h.0), λ r m. let i = of_end m _ e in i.3 ∙ ap (λ p. instant p.1) (h.1 (i.0, i.1) i.2))

pub returns-in-Some-moment-clause-exact : goal.returns-in-Some-moment-clause-exact
returns-in-Some-moment-clause-exact c =
    let s = c.as_bytes-bytes.result.now in
    let same = c.as_bytes-bytes.ensures.value in
    let no_start = strip_suffix_is Decides-eqb s (codes "@start") None c.in_default.ensures.cases in
    let no_end = strip_suffix_is Decides-eqb s (codes "@end") None c.in_default-strip_suffix.ensures.cases in
    let h = c.in-Some-moment.ensures in
    rw (← same) (moment s _ h.0, λ r m. elim (of_plain m no_start no_end) [ inl i ↦ i.2 ∙ ap instant (h.1 i.0 i.1) | inr i ↦ absurd (not_moment i.2 (length-moment h.0)) ])

pub returns-in_err-span-3-clause-exact : goal.returns-in_err-span-3-clause-exact
returns-in_err-span-3-clause-exact c =
    let s = c.as_bytes-bytes.result.now in
    let same = c.as_bytes-bytes.ensures.value in
    let no_start = strip_suffix_is Decides-eqb s (codes "@start") None c.in_default.ensures.cases in
    let no_end = strip_suffix_is Decides-eqb s (codes "@end") None c.in_default-strip_suffix.ensures.cases in
    rw (c.from_residual-in_err-span-3.ensures, ← same) (λ r m. elim (of_plain m no_start no_end) [ inl i ↦ c.in_default-moment.ensures i.0 i.1 | inr i ↦ c.in_err-span-3.ensures (i.0, i.1) i.2 ])

pub returns-clause-exact : goal.returns-clause-exact
returns-clause-exact c =
    let s = c.as_bytes-bytes.result.now in
    let same = c.as_bytes-bytes.ensures.value in
    let no_start = strip_suffix_is Decides-eqb s (codes "@start") None c.in_default.ensures.cases in
    let no_end = strip_suffix_is Decides-eqb s (codes "@end") None c.in_default-strip_suffix.ensures.cases in
    let h = c.in_ok-span-3.ensures in
    rw (← same) (span s _ _ h.0, λ r m. elim (of_plain m no_start no_end) [ inl i ↦ absurd (c.in_default-moment.ensures i.0 i.1) | inr i ↦ i.3 ∙ ap (λ p. duration p.0 p.1) (h.1 (i.0, i.1) i.2) ])

pub returns-in_err-span-clause-value : goal.returns-in_err-span-clause-value
returns-in_err-span-clause-value c = same_only _ _ _ (returns-in_err-span-clause-exact c) (period_of_exact c.args.text.now)

pub returns-in-Some-clause-value : goal.returns-in-Some-clause-value
returns-in-Some-clause-value c = same_only _ _ _ (returns-in-Some-clause-exact c) (period_of_exact c.args.text.now)

pub returns-in_err-span-2-clause-value : goal.returns-in_err-span-2-clause-value
returns-in_err-span-2-clause-value c = same_only _ _ _ (returns-in_err-span-2-clause-exact c) (period_of_exact c.args.text.now)

pub returns-in-Some-strip_suffix-clause-value : goal.returns-in-Some-strip_suffix-clause-value
returns-in-Some-strip_suffix-clause-value c = same_only _ _ _ (returns-in-Some-strip_suffix-clause-exact c) (period_of_exact c.args.text.now)

pub returns-in-Some-moment-clause-value : goal.returns-in-Some-moment-clause-value
returns-in-Some-moment-clause-value c = same_only _ _ _ (returns-in-Some-moment-clause-exact c) (period_of_exact c.args.text.now)

pub returns-in_err-span-3-clause-value : goal.returns-in_err-span-3-clause-value
returns-in_err-span-3-clause-value c = same_only _ _ _ (returns-in_err-span-3-clause-exact c) (period_of_exact c.args.text.now)

pub returns-clause-value : goal.returns-clause-value
returns-clause-value c = same_only _ _ _ (returns-clause-exact c) (period_of_exact c.args.text.now)
