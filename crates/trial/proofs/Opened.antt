-- The definitions that the rows and the inputs compute with, opened by one name.
use mathlib.Core.Bool.{Bool, true}

unfoldable pub opened : Bool
unfolding Rattle.base.specs.Options.bind
    Rattle.base.specs.Bytes.both Rattle.base.specs.Bytes.either Rattle.base.specs.Bytes.is_digit Rattle.base.specs.Bytes.all Rattle.base.specs.Bytes.same
    Rattle.kind.specs.Kind.of_number Rattle.kind.specs.Kind.same_kind
    Rattle.osm_id.specs.Order.same_id Rattle.osm_id.specs.Order.osm_key_of Rattle.osm_id.specs.Order.rank Rattle.osm_id.specs.Order.id_of
    Rattle.version_floor.specs.Version.higher Rattle.version_floor.specs.Version.admit_of Rattle.version_floor.specs.Version.word_of Rattle.version_floor.specs.Version.of_word
    Rattle.integer.specs.Integer.decimal Rattle.integer.specs.Integer.digits Rattle.integer.specs.Integer.integer Rattle.integer.specs.Integer.holds Rattle.integer.specs.Integer.of_width Rattle.integer.specs.Integer.integer_of
    Rattle.calendar.specs.Calendar.leap Rattle.calendar.specs.Calendar.month_days Rattle.calendar.specs.Calendar.months_days Rattle.calendar.specs.Calendar.year_days Rattle.calendar.specs.Calendar.years_days
    Rattle.degrees.specs.Degrees.legal_degrees Rattle.degrees.specs.Degrees.exact_of Rattle.degrees.specs.Degrees.parts_behind Rattle.degrees.specs.Degrees.parts_of Rattle.degrees.specs.Degrees.exact_degrees Rattle.degrees.specs.Nearest.nearest Rattle.degrees.specs.Nearest.read_degrees
    Rattle.stamp.specs.Stamp.stamp_field Rattle.stamp.specs.Stamp.separated Rattle.stamp.specs.Stamp.shaped Rattle.stamp.specs.Stamp.taken_moment Rattle.stamp.specs.Stamp.days_of Rattle.stamp.specs.Stamp.epoch Rattle.stamp.specs.Stamp.seconds_of Rattle.stamp.specs.Stamp.moment Rattle.stamp.specs.Stamp.accepted_moment Rattle.stamp.specs.Stamp.stamp
    Rattle.text.specs.Char.from_to Rattle.text.specs.Char.xml_char Rattle.text.specs.Char.utf8
    Rattle.text.specs.Check.joined_bits Rattle.text.specs.Check.decoded Rattle.text.specs.Check.begins Rattle.text.specs.Check.char_len Rattle.text.specs.Check.text_after Rattle.text.specs.Check.is_text
    Rattle.text.specs.Escape.escaped Rattle.text.specs.Escape.escape Rattle.text.specs.Escape.meaning Rattle.text.specs.Escape.byte_before Rattle.text.specs.Escape.unescape_from
    Rattle.little.specs.Little.le Rattle.little.specs.Little.value Rattle.little.specs.Little.value_at Rattle.little.specs.Little.over
    Rattle.interner.specs.Strings.spanned Rattle.interner.specs.Strings.is_at Rattle.interner.specs.Strings.find_from Rattle.interner.specs.Strings.find_in Rattle.interner.specs.Strings.text_room Rattle.interner.specs.Strings.added Rattle.interner.specs.Strings.taken_as Rattle.interner.specs.Strings.intern
    Rattle.interner.specs.Sound.handles Rattle.interner.specs.Sound.texts_in Rattle.interner.specs.Sound.counts_within Rattle.interner.specs.Sound.span_within Rattle.interner.specs.Sound.sound_up_to Rattle.interner.specs.Sound.first_empty Rattle.interner.specs.Sound.sound_strings
    Rattle.distinct.specs.Distinct.differs Rattle.distinct.specs.Distinct.distinct
    Rattle.line.specs.Line.onto Rattle.line.specs.Line.fields Rattle.line.specs.Line.tabbed Rattle.line.specs.Line.line
    Rattle.line.specs.Decimal.digits_before Rattle.line.specs.Decimal.number_text Rattle.line.specs.Decimal.integer_text
    Rattle.nesting.specs.Name.spellings Rattle.nesting.specs.Name.name_in Rattle.nesting.specs.Name.name_of
    Rattle.nesting.specs.Nesting.in_doc Rattle.nesting.specs.Nesting.in_root Rattle.nesting.specs.Nesting.in_section Rattle.nesting.specs.Nesting.in_element Rattle.nesting.specs.Nesting.opened_at Rattle.nesting.specs.Nesting.opened Rattle.nesting.specs.Nesting.closed_to Rattle.nesting.specs.Nesting.closed
    Rattle.event.specs.Event.unended Rattle.event.specs.Event.legal_line Rattle.event.specs.Event.parted Rattle.event.specs.Event.attr_of Rattle.event.specs.Event.attrs_of Rattle.event.specs.Event.named Rattle.event.specs.Event.none_twice Rattle.event.specs.Event.event_of Rattle.event.specs.Event.value_of
    Rattle.model.specs.Record.flagged Rattle.model.specs.Record.claim_of
    Rattle.compact.specs.Layout.meta_bytes Rattle.compact.specs.Layout.member_bytes Rattle.compact.specs.Layout.tag_bytes Rattle.compact.specs.Layout.joined_bytes Rattle.compact.specs.Layout.head_bytes Rattle.compact.specs.Layout.head_of Rattle.compact.specs.Layout.body_bytes Rattle.compact.specs.Layout.parts_bytes Rattle.compact.specs.Layout.record_bytes
    Rattle.compact.specs.Cut.then_cut Rattle.compact.specs.Cut.cut_bytes Rattle.compact.specs.Cut.cut_number Rattle.compact.specs.Cut.cut_i32 Rattle.compact.specs.Cut.cut_i64 Rattle.compact.specs.Cut.times Rattle.compact.specs.Cut.cut_meta Rattle.compact.specs.Cut.cut_member Rattle.compact.specs.Cut.cut_tag Rattle.compact.specs.Cut.cut_body Rattle.compact.specs.Cut.cut_parts Rattle.compact.specs.Cut.pushed_record Rattle.compact.specs.Cut.cut_counts Rattle.compact.specs.Cut.cut_head Rattle.compact.specs.Cut.cut_record
    Rattle.compact.specs.Legal.legal_meta Rattle.compact.specs.Legal.body_handles Rattle.compact.specs.Legal.legal_handles Rattle.compact.specs.Legal.legal_texts Rattle.compact.specs.Legal.in_range Rattle.compact.specs.Legal.value_bytes Rattle.compact.specs.Legal.within_limits Rattle.compact.specs.Legal.fault_of Rattle.compact.specs.Legal.legal
    Rattle.compact.specs.Held.meta_of Rattle.compact.specs.Held.node_head Rattle.compact.specs.Held.counts_head Rattle.compact.specs.Held.head_in
    Rattle.compact.specs.View.meta_at
    Rattle.compact_append.specs.Append.append
    Rattle.compact_legal.specs.Judge.fault_for Rattle.compact_legal.specs.Judge.end_of Rattle.compact_legal.specs.Judge.record_end
    Rattle.compact_legal.specs.Whole.after_legal Rattle.compact_legal.specs.Whole.whole_by Rattle.compact_legal.specs.Whole.whole_records
    Rattle.kind_table.specs.Rows.rising_from Rattle.kind_table.specs.Rows.rising
    Rattle.kind_table.specs.Words.rows_from Rattle.kind_table.specs.Words.rows_of Rattle.kind_table.specs.Words.words_of Rattle.kind_table.specs.Words.sound_table Rattle.kind_table.specs.Words.held Rattle.kind_table.specs.Words.halve Rattle.kind_table.specs.Words.answer_at Rattle.kind_table.specs.Words.lookup Rattle.kind_table.specs.Words.row_over Rattle.kind_table.specs.Words.inserted Rattle.kind_table.specs.Words.stored_at Rattle.kind_table.specs.Words.stored Rattle.kind_table.specs.Words.count_after
    Rattle.kind_store.specs.KindStore.is_live Rattle.kind_store.specs.KindStore.version_at Rattle.kind_store.specs.KindStore.live_version Rattle.kind_store.specs.KindStore.known_of Rattle.kind_store.specs.KindStore.known_version Rattle.kind_store.specs.KindStore.floor_of Rattle.kind_store.specs.KindStore.checked Rattle.kind_store.specs.KindStore.id_room Rattle.kind_store.specs.KindStore.rowed Rattle.kind_store.specs.KindStore.record_joined Rattle.kind_store.specs.KindStore.pushed Rattle.kind_store.specs.KindStore.deleted
    Rattle.kind_sound.specs.Check.comes_to Rattle.kind_sound.specs.Check.id_there Rattle.kind_sound.specs.Check.record_there Rattle.kind_sound.specs.Check.row_passes Rattle.kind_sound.specs.Check.sound_used Rattle.kind_sound.specs.Check.sound_kind_store
    Rattle.overlay_blocks.specs.Blocks.ends_of
    Rattle.overlay_blocks.specs.Sizes.kind_fits Rattle.overlay_blocks.specs.Sizes.strings_fit Rattle.overlay_blocks.specs.Sizes.sizes_in_range
    Rattle.overlay.specs.Overlay.kind_tiled Rattle.overlay.specs.Overlay.texts_tiled Rattle.overlay.specs.Overlay.tiled Rattle.overlay.specs.Overlay.sizes_fit
    Rattle.overlay.specs.Sound.kind_stores_sound Rattle.overlay.specs.Sound.is_sound
    Rattle.overlay.specs.Calls.set_up
    Rattle.overlay_direct.specs.Calls.push_on Rattle.overlay_direct.specs.Calls.delete_on Rattle.overlay_direct.specs.Calls.intern_on
    Rattle.listing_page.specs.Listing.kind_field Rattle.listing_page.specs.Listing.version_field Rattle.listing_page.specs.Listing.each Rattle.listing_page.specs.Listing.counted Rattle.listing_page.specs.Listing.body_fields Rattle.listing_page.specs.Listing.record_fields Rattle.listing_page.specs.Listing.row_fields Rattle.listing_page.specs.Listing.listing
    Rattle.event_fields.specs.Field.id_field Rattle.event_fields.specs.Field.text_field Rattle.event_fields.specs.Field.integer_field Rattle.event_fields.specs.Field.coordinate Rattle.event_fields.specs.Field.mark Rattle.event_fields.specs.Field.meta_with Rattle.event_fields.specs.Field.meta_from Rattle.event_fields.specs.Field.metadata_of Rattle.event_fields.specs.Field.tag_of Rattle.event_fields.specs.Field.ref_of Rattle.event_fields.specs.Field.member_of
    Rattle.event_decision.specs.Decision.decide_event Rattle.event_decision.specs.Decision.decide
    Rattle.reader_stage.specs.Stage.staged
    Rattle.reader.specs.State.stops_by Rattle.reader.specs.State.pending_record Rattle.reader.specs.State.pending_sound Rattle.reader.specs.State.reader_sound Rattle.reader.specs.State.state_sound
    Rattle.reader.specs.Step.taking_user Rattle.reader.specs.Step.step_of
    Rattle.reader.specs.Event.event_on Rattle.reader.specs.Event.end_on
    Rattle.listing.specs.Known.record_in
    Rattle.listing.specs.Table.left_at Rattle.listing.specs.Table.kind_table Rattle.listing.specs.Table.table_of
    Rattle.listing.specs.Call.page_over Rattle.listing.specs.Call.listing_on
    Rattle.trial.specs.Rows.all_agree Rattle.trial.specs.Rows.right
    Rattle.calls.specs.Ask.after
    Rattle.trial.specs.Stops.leaves_number
opened = true
