-- Each step of a run leads to the next, or ends the job.
use Rattle.std.proofs.Common.{[], ◌∷◌, ◌++◌, length, ◌∙◌, refl, sym, ap, subst, arith}
use Rattle.std.proofs.lemmas.Result.{err_from_is_err_and}
use Rattle.sheets.specs.Sheets.{spelled}
use Rattle.station.specs.Calls.{set_up}
use Rattle.jobs.specs.Sections.{part_of, offset_of}
use Rattle.jobs.specs.Readings.{Read}
use Rattle.jobs.specs.Runs.{opening_calls, hint_calls, row_calls, column_calls, unread, no_code, no_codeword}
use Rattle.jobs.specs.Leading.{Led, WordStops, RowStops, ColumnStops, OnBlocks}
use Rattle.jobs.proofs.Leads.{led_none, led_stops}
use Rattle.jobs.proofs.Decoded.{decoded}
use Rattle.jobs.proofs.Outcomes.{carried, rows_part, columns_part, word_within, word_ends, rows_end, columns_end, set_up_led, load_led, comes}
use Rattle.jobs.proofs.running.run.Goals as goal

pub returns-in_err-job : goal.returns-in_err-job
returns-in_err-job g c =
    let r = c.from_residual in
    let p = err_from_is_err_and r.result r.ensures.1 in
    rw (p.1, p.2) (unread (rw c.number.ensures at c.in_err-job.ensures))

pub returns-in_err-set_up : goal.returns-in_err-set_up
returns-in_err-set_up g c =
    let r = c.from_residual-in_err-set_up in
    let p = err_from_is_err_and r.result r.ensures.1 in
    let m = g.K.Kind.meaning c.args.kind in
    let read = subst (λ n. Read n c.args.bytes.now c.in_ok-job.job) c.number.ensures c.in_ok-job.ensures in
    let s = c.new-station.result in
    let none = led_none m s c.new-station.ensures.bare.0 c.new-station.ensures.bare.1 in
    rw (p.1, p.2) (no_code read.job read.spells (led_stops g.K.Kind.meaning c.args.kind s c.set_up.new.self c.new-station.ensures.kind [] (ap set_up read.sheet) c.in_err-set_up.ensures.rules none))

pub returns-in_err-load : goal.returns-in_err-load
returns-in_err-load g c =
    let r = c.from_residual-in_err-load in
    let p = err_from_is_err_and r.result r.ensures.1 in
    let meaning = g.K.Kind.meaning in
    let m = meaning c.args.kind in
    let read = subst (λ n. Read n c.args.bytes.now c.in_ok-job.job) c.number.ensures c.in_ok-job.ensures in
    let bare = c.new-station.ensures.kind in
    let ready = set_up_led meaning read c.new-station.result c.set_up.new.self bare c.new-station.ensures.bare c.in_ok-set_up.ensures.rules in
    let one = c.set_up.ensures.kind ∙ bare in
    let x = spelled m.number read.job.sheet in
    let stops =
    carried meaning (λ m. WordStops m (set_up x ∷ []) (part_of c.in_ok-job.job.word) (offset_of c.in_ok-job.job.word) c.in_err-load.field-0.0) c.set_up.new.self one (set_up x ∷ [])
    (c.in_err-load.ensures.led (set_up x ∷ []) (omega (arith, word_within m read))) ready
    in
    rw (p.1, p.2) (word_ends m read stops)

pub returns-in_err-give_rows : goal.returns-in_err-give_rows
returns-in_err-give_rows g c =
    let r = c.from_residual-in_err-give_rows in
    let p = err_from_is_err_and r.result r.ensures.1 in
    let meaning = g.K.Kind.meaning in
    let m = meaning c.args.kind in
    let read = subst (λ n. Read n c.args.bytes.now c.in_ok-job.job) c.number.ensures c.in_ok-job.ensures in
    let bare = c.new-station.ensures.kind in
    let ready = set_up_led meaning read c.new-station.result c.set_up.new.self bare c.new-station.ensures.bare c.in_ok-set_up.ensures.rules in
    let one = c.set_up.ensures.kind ∙ bare in
    let x = spelled m.number read.job.sheet in
    let word = load_led meaning read c.set_up.new.self c.load.new.station one ready (c.in_ok-load.ensures.led (set_up x ∷ []) (omega (arith, word_within m read))) in
    let two = c.load.ensures.kind ∙ one in
    let calls = opening_calls m.number read.job in
    let stops =
    carried meaning (λ m. RowStops m calls read.job.rows (offset_of c.in_ok-job.job.rows) c.in_err-give_rows.field-0.0) c.load.new.station two calls
    (c.in_err-give_rows.ensures.led calls read.job.rows (rows_part m read)) word
    in
    rw (p.1, p.2) (rows_end m read stops)

pub returns-in_err-give_columns : goal.returns-in_err-give_columns
returns-in_err-give_columns g c =
    let r = c.from_residual-in_err-give_columns in
    let p = err_from_is_err_and r.result r.ensures.1 in
    let meaning = g.K.Kind.meaning in
    let m = meaning c.args.kind in
    let read = subst (λ n. Read n c.args.bytes.now c.in_ok-job.job) c.number.ensures c.in_ok-job.ensures in
    let bare = c.new-station.ensures.kind in
    let ready = set_up_led meaning read c.new-station.result c.set_up.new.self bare c.new-station.ensures.bare c.in_ok-set_up.ensures.rules in
    let one = c.set_up.ensures.kind ∙ bare in
    let x = spelled m.number read.job.sheet in
    let word = load_led meaning read c.set_up.new.self c.load.new.station one ready (c.in_ok-load.ensures.led (set_up x ∷ []) (omega (arith, word_within m read))) in
    let two = c.load.ensures.kind ∙ one in
    let calls = opening_calls m.number read.job in
    let rows =
    carried meaning (λ m. Led m (calls ++ row_calls read.job.rows) c.give_rows.new.station) c.load.new.station two calls (c.in_ok-give_rows.ensures.led calls read.job.rows (rows_part m read)) word
    in
    let three = c.give_rows.ensures.kind ∙ two in
    let rowed = calls ++ row_calls read.job.rows in
    let on = subst (λ ls. OnBlocks ls read.job.columns) (sym read.lengths) read.spells.job.columns in
    let stops =
    carried meaning (λ m. ColumnStops m rowed read.job.columns (offset_of c.in_ok-job.job.columns) c.in_err-give_columns.field-0.0) c.give_rows.new.station three rowed
    (c.in_err-give_columns.ensures.led rowed read.job.columns (columns_part m read) on) rows
    in
    rw (p.1, p.2) (columns_end m read stops)

pub returns : goal.returns
returns g c =
    let meaning = g.K.Kind.meaning in
    let m = meaning c.args.kind in
    let read = subst (λ n. Read n c.args.bytes.now c.in_ok-job.job) c.number.ensures c.in_ok-job.ensures in
    let bare = c.new-station.ensures.kind in
    let ready = set_up_led meaning read c.new-station.result c.set_up.new.self bare c.new-station.ensures.bare c.in_ok-set_up.ensures.rules in
    let one = c.set_up.ensures.kind ∙ bare in
    let x = spelled m.number read.job.sheet in
    let word = load_led meaning read c.set_up.new.self c.load.new.station one ready (c.in_ok-load.ensures.led (set_up x ∷ []) (omega (arith, word_within m read))) in
    let two = c.load.ensures.kind ∙ one in
    let calls = opening_calls m.number read.job in
    let rows =
    carried meaning (λ m. Led m (calls ++ row_calls read.job.rows) c.give_rows.new.station) c.load.new.station two calls (c.in_ok-give_rows.ensures.led calls read.job.rows (rows_part m read)) word
    in
    let three = c.give_rows.ensures.kind ∙ two in
    let rowed = calls ++ row_calls read.job.rows in
    let on = subst (λ ls. OnBlocks ls read.job.columns) (sym read.lengths) read.spells.job.columns in
    let hints =
    carried meaning (λ m. Led m (rowed ++ column_calls read.job.columns) c.give_columns.new.station) c.give_rows.new.station three rowed
    (c.in_ok-give_columns.ensures.led rowed read.job.columns (columns_part m read) on) rows
    in
    let four = c.give_columns.ensures.kind ∙ three in
    rw c.at_place.ensures
    (no_codeword read.job read.spells (led_stops meaning c.args.kind c.give_columns.new.station c.decode.new.self four (hint_calls m.number read.job) refl c.in-Err.ensures.rules hints))

pub returns-in-Ok : goal.returns-in-Ok
returns-in-Ok g c =
    let meaning = g.K.Kind.meaning in
    let m = meaning c.args.kind in
    let read = subst (λ n. Read n c.args.bytes.now c.in_ok-job.job) c.number.ensures c.in_ok-job.ensures in
    let bare = c.new-station.ensures.kind in
    let ready = set_up_led meaning read c.new-station.result c.set_up.new.self bare c.new-station.ensures.bare c.in_ok-set_up.ensures.rules in
    let one = c.set_up.ensures.kind ∙ bare in
    let x = spelled m.number read.job.sheet in
    let word = load_led meaning read c.set_up.new.self c.load.new.station one ready (c.in_ok-load.ensures.led (set_up x ∷ []) (omega (arith, word_within m read))) in
    let two = c.load.ensures.kind ∙ one in
    let calls = opening_calls m.number read.job in
    let rows =
    carried meaning (λ m. Led m (calls ++ row_calls read.job.rows) c.give_rows.new.station) c.load.new.station two calls (c.in_ok-give_rows.ensures.led calls read.job.rows (rows_part m read)) word
    in
    let three = c.give_rows.ensures.kind ∙ two in
    let rowed = calls ++ row_calls read.job.rows in
    let on = subst (λ ls. OnBlocks ls read.job.columns) (sym read.lengths) read.spells.job.columns in
    let hints =
    carried meaning (λ m. Led m (rowed ++ column_calls read.job.columns) c.give_columns.new.station) c.give_rows.new.station three rowed
    (c.in_ok-give_columns.ensures.led rowed read.job.columns (columns_part m read) on) rows
    in
    let four = c.give_columns.ensures.kind ∙ three in
    let d = decoded meaning c.args.kind c.give_columns.new.station c.decode.new.self four x _ c.in-Ok.ensures.rules hints in
    comes meaning read c.give_columns.new.station c.decode.new.self four _ _ c.found.result (ap length c.bytes.ensures) refl c.found.ensures (c.decode.ensures.kind ∙ four) d
