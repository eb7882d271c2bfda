-- The channels of pieces, and the queue of a table.
use Rattle.std.proofs.Common.{◌≡◌, ◌+◌, ◌≤◌, ◌<◌, ℕ, List, length, Option, Some, None, IfSome, IsSome, refl, sym, ap, subst, ◌∙◌, arith}
use Rattle.csv.specs.declared.parser.State.TheVariants as state
use Rattle.oim_records.specs.Grids.{Record, records_left}
use Rattle.oim_rows.specs.RowFacts.{TableHeaderValue}
use Rattle.oim_decode.specs.Apart.{Apart}
use Rattle.oim_decode.specs.PieceAnswers.{refused}
use Rattle.oim_decode.proofs.HeadLaws.{refused_decoded}
use Rattle.oim_pieces.specs.state.PiecesUnderWay.{IsPieceAnswer}
use Rattle.oim_pieces.specs.state.Channels.{FitsPiece, IsAnswerIn, IsLine, IsOf, IsPiece, IsReadBy}
use Rattle.oim_pieces.specs.state.ComingAnswers.{IsKept}
use Rattle.oim_pieces.specs.declared.decoded.Asked.{Asked}
use Rattle.oim_pieces.specs.declared.in_channel.PieceToDecode.{PieceToDecode}
use Rattle.oim_pieces.specs.declared.in_channel.InChannel.TheVariants.{ToDecode, Decoded}
use Rattle.oim_pieces.proofs.UnderWayLaws.{answer_same}

-- THE CHANNEL OF A PIECE

-- The decoder accepts the piece that is in the channel.
pub may_decode : (g : TableHeaderValue) (known : Option Asked) (q : PieceToDecode) → IsReadBy g known → IfSome known (λ a. FitsPiece a (ToDecode q)) → q.asked.first ≤ g.limit + 1
may_decode g None q reads fits = absurd reads
may_decode g (Some a) q reads fits = subst (λ (x : TableHeaderValue). q.asked.first ≤ x.limit + 1) reads fits.may

-- The decoded answer fits the channel.
pub decoded_here : (g : TableHeaderValue) (known : Option Asked) (q : PieceToDecode) (answer : Apart) → IsReadBy g known → IfSome known (λ a. FitsPiece a (ToDecode q))
    → IsPieceAnswer g q.asked.first (records_left state.StartRecord q.bytes.items) answer → IsAnswerIn known answer
decoded_here g None q answer reads fits is = tt
decoded_here g (Some a) q answer reads fits is = answer_same a.header.value g a.first q.asked.first a.rows.value (records_left state.StartRecord q.bytes.items) answer is (sym reads) fits.first fits.rows

-- No answer arrives: the answer is Memory.
pub refused_here : (g : TableHeaderValue) (first : ℕ) (known : Option Asked) (answer : Apart) → IsReadBy g known → IfSome known (λ a. a.first ≡ first)
    → ((rows : List Record) → IsPieceAnswer g first rows answer) → IsAnswerIn known answer
refused_here g first None answer reads at is = tt
refused_here g first (Some a) answer reads at is = answer_same a.header.value g a.first first a.rows.value a.rows.value answer (is a.rows.value) (sym reads) (sym at) refl

-- An answer from the channel is for the piece that was asked for.
pub of_asked : (asked : Asked) (known : Option Asked) (answer : Apart) → IsOf asked known → IsAnswerIn known answer
    → IsPieceAnswer asked.header.value asked.first asked.rows.value answer
of_asked asked None answer same is = absurd same
of_asked asked (Some a) answer same is =
    answer_same asked.header.value a.header.value asked.first a.first asked.rows.value a.rows.value answer is same.0 same.1 same.2

pub of_reads : (g : TableHeaderValue) (asked : Asked) (known : Option Asked) → IsOf asked known → asked.header.value ≡ g → IsReadBy g known
of_reads g asked None same reads = absurd same
of_reads g asked (Some a) same reads = same.0 ∙ reads

pub of_first : (asked : Asked) (known : Option Asked) → IsOf asked known → IfSome known (λ a. a.first ≡ asked.first)
of_first asked None same = tt
of_first asked (Some a) same = same.1

-- A PIECE THAT IS KEPT

pub is_kept : (asked : Asked) (bytes : List ℕ) (g : TableHeaderValue) (n : ℕ) → asked.header.value ≡ g → asked.first ≡ n → asked.rows.value ≡ records_left state.StartRecord bytes
    → 1 ≤ n → n ≤ g.limit + 1 → IsKept asked bytes
is_kept asked bytes g n reads at are some may = record {
  rows = sym are;
  some = subst (λ k. 1 ≤ k) (sym at) some;
  may = subst (λ k. k ≤ asked.header.value.limit + 1) (sym at) (subst (λ (x : TableHeaderValue). n ≤ x.limit + 1) (sym reads) may);
}

-- The decoder accepts it.
pub may_kept : (asked : Asked) (bytes : List ℕ) (g : TableHeaderValue) → IsKept asked bytes → asked.header.value ≡ g → asked.first ≤ g.limit + 1
may_kept asked bytes g kept reads = subst (λ (x : TableHeaderValue). asked.first ≤ x.limit + 1) reads kept.may

-- Its answer is for the piece that was asked for.
pub kept_answer : (asked : Asked) (bytes : List ℕ) (g : TableHeaderValue) (answer : Apart) → IsKept asked bytes → asked.header.value ≡ g
    → IsPieceAnswer g asked.first (records_left state.StartRecord bytes) answer → IsPieceAnswer asked.header.value asked.first asked.rows.value answer
kept_answer asked bytes g answer kept reads is =
    answer_same asked.header.value g asked.first asked.first asked.rows.value (records_left state.StartRecord bytes) answer is (sym reads) refl kept.rows

-- Memory is an answer for any piece.
pub refused_answer : (g : TableHeaderValue) (first : ℕ) (rows : List Record) (a : Apart) → a ≡ refused g.table → first ≤ 4294967296 → IsPieceAnswer g first rows a
refused_answer g first rows a is may = record {
  decoded = refused_decoded g first rows a is;
  few = let none : length a.ids ≡ 0 = ap (λ (x : Apart). length x.ids) is in omega (arith, none, may);
}

-- THE QUEUE OF A TABLE

pub job_known : (g : TableHeaderValue) (job : Option Asked) → IsReadBy g job → IsSome job
job_known g None reads = absurd reads
job_known g (Some a) reads = refl

pub job_fits : (job : Option Asked) → IfSome job (λ a. IsReadBy a.header.value job)
job_fits None = tt
job_fits (Some a) = refl

pub line_opens : (g : TableHeaderValue) (line : Option (Option Asked)) (job : Option Asked) → IfSome line (λ first. first ≡ job) → IsReadBy g job → IsLine g line
line_opens g None job same reads = tt
line_opens g (Some first) job same reads = subst (IsReadBy g) (sym same) reads

pub line_fits : (g : TableHeaderValue) (line job : Option Asked) → IsReadBy g line → IsReadBy g job → IfSome line (λ a. IsReadBy a.header.value job)
line_fits g None job known reads = absurd known
line_fits g (Some a) job known reads = subst (λ (x : TableHeaderValue). IsReadBy x job) (sym known) reads

pub line_gives : (g : TableHeaderValue) (line job : Option Asked) → IsReadBy g line → IfSome line (λ a. IsReadBy a.header.value job) → IsReadBy g job
line_gives g None job known fits = absurd known
line_gives g (Some a) job known fits = subst (λ (x : TableHeaderValue). IsReadBy x job) known fits
